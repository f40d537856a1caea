-- The command line is one of those whose matches and faults clap gives exactly.
use Rattle.std.proofs.Common.{◌≡◌, true, refl, sym, subst, Result, Ok, Err}
use Rattle.std.specs.Result.{IsErrAnd}
use Rattle.clap.specs.Words.{FailsBy, HasKind, Kinds, is_simple, is_simple_and_free}
use Rattle.clap.specs.declared.error.Error.{Error}
use Rattle.clap.proofs.OnLiterals.{clap_on_literals}
use Rattle.swimsim.specs.Options.{command_line}

pub is_simple_line : is_simple command_line ≡ true
unfolding clap_on_literals
is_simple_line = refl

pub is_free_line : is_simple_and_free command_line ≡ true
unfolding clap_on_literals
is_free_line = refl

-- an error that is passed on has its kind
pub passed_on : {T : Type 0} (kinds : Kinds) (r : Result T Error) (error : Error) → IsErrAnd r (λ e. e ≡ error)
    → HasKind kinds error → FailsBy kinds r
passed_on kinds (Ok value) error same has = absurd same
passed_on kinds (Err e) error same has = subst (HasKind kinds) (sym same) has
