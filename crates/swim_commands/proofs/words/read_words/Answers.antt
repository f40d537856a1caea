use Rattle.std.proofs.Common.{◌≡◌, ◌⊎◌, ℕ, List, [], ◌∷◌, map, Bor, Option, Some, None, Result, Ok, Err, sym, ap, ◌∙◌}
use Rattle.std.proofs.Common.{inl, inr}
use Rattle.clap.specs.Faults.{fault_of, is_simple_and_free}
use Rattle.clap.specs.Kinds.{Kinds, IsAmong}
use Rattle.clap.specs.Simple.{App, app_of, is_simple, subcommand_of}
use Rattle.clap.specs.Walk.{Row, Text}
use Rattle.clap.specs.declared.error.kind.ErrorKind.{ErrorKind}
use Rattle.clap.specs.declared.error.kind.ErrorKind.TheVariants.{OutOfMemory}
use Rattle.std.specs.Option.{ok_or, option_map}
use Rattle.std.specs.Result.{MatchResult}
use Rattle.swim_commands.specs.declared.words.Asked.{Asked}
use Rattle.swim_commands.specs.declared.words.Unasked.{Unasked}
use Rattle.swim_commands.specs.declared.words.Unasked.TheVariants.{Usage, NoMemory}
use Rattle.swim_commands.specs.Words.{program, answer_to, around_of, asked_in, unasked_by, wanted, Around, IsAsked}
use Rattle.swim_commands.specs.Words.{IsAskedBy, Wanted}
use Rattle.swim_commands.proofs.words.read_words.Goals as goal

-- what was found is told, and usage where nothing was
found : (o : Option Asked) (r : Result Asked Unasked) (Is : Option Wanted → Type 0) → r ≡ ok_or o Usage →
    Is (option_map wanted o) →
    MatchResult r (λ a. Is (Some (wanted a))) (λ unasked. (unasked ≡ NoMemory) ⊎ Is None)
found (Some a) r Is same is = rw same is
found None r Is same is = rw same (inr is)

-- where there are no faults, what was met is asked
met_is : (around : Around) (kinds : Kinds) (met : Option (Text × List Row)) (asked : Option Wanted) → kinds ≡ [] →
    asked ≡ asked_in around met → IsAskedBy around kinds met asked
met_is around kinds met asked none is = rw none is

-- an error tells one of the faults
told : (around : Around) (kind : ErrorKind) (kinds : Kinds) (met : Option (Text × List Row))
    (r : Result Asked Unasked) →
    (kind ≡ OutOfMemory) ⊎ IsAmong kind kinds →
    MatchResult r (λ a. answer_to kind ≡ Some (wanted a))
    (λ unasked. (unasked ≡ NoMemory) ⊎ ((unasked ≡ unasked_by kind) × (answer_to kind ≡ None))) →
    MatchResult r (λ a. IsAskedBy around kinds met (Some (wanted a)))
    (λ unasked. (unasked ≡ NoMemory) ⊎ IsAskedBy around kinds met None)
told around kind [] met (Ok a) (inl memory) is = absurd (let e = sym (ap answer_to memory) ∙ is in cc)
told around kind (first ∷ kinds) met (Ok a) (inl memory) is = absurd (let e = sym (ap answer_to memory) ∙ is in cc)
told around kind [] met (Err u) (inl memory) is =
    elim is [ inl none ↦ inl none | inr by ↦ inl (by.0 ∙ ap unasked_by memory) ]
told around kind (first ∷ kinds) met (Err u) (inl memory) is =
    elim is [ inl none ↦ inl none | inr by ↦ inl (by.0 ∙ ap unasked_by memory) ]
told around kind [] met r (inr among) is = absurd among
told around kind (first ∷ kinds) met (Ok a) (inr among) is = (kind, among, sym is)
told around kind (first ∷ kinds) met (Err u) (inr among) is =
    elim is [ inl none ↦ inl none | inr by ↦ inr (kind, among, sym by.1) ]

pub returns-in-Ok-try_get_matches_from : goal.returns-in-Ok-try_get_matches_from
returns-in-Ok-try_get_matches_from c =
    let words = map (λ (word : Bor (List ℕ)). word.now) c.args.words.now in
    let met = (c.in-Ok-try_get_matches_from.ensures.matches (ap is_simple c.in-Ok.ensures)).1 ∙
    ap (λ (a : App). subcommand_of a words) c.in-Ok.ensures in
    let none : fault_of program words ≡ [] = ap (λ (a : App). fault_of a words) (sym c.in-Ok.ensures) ∙
    c.in-Ok-try_get_matches_from.ensures.kinds (ap is_simple_and_free c.in-Ok.ensures) in
    found c.asked_in.result c.ok_or.result (IsAsked (around_of c.args.around) words) c.ok_or.ensures.value
    (met_is (around_of c.args.around) (fault_of program words) (subcommand_of program words) _ none
    (c.asked_in.ensures ∙ ap (asked_in (around_of c.args.around)) met))

pub returns-in-Err : goal.returns-in-Err
returns-in-Err c =
    let words = map (λ (word : Bor (List ℕ)). word.now) c.args.words.now in
    let has = c.in-Err.ensures.kinds (ap is_simple_and_free c.in-Ok.ensures) in
    let same : fault_of (app_of c.in-Ok.program) words ≡ fault_of program words =
    ap (λ (a : App). fault_of a words) c.in-Ok.ensures in
    told (around_of c.args.around) _ (fault_of program words) (subcommand_of program words) c.answered.result
    (rw same at has) c.answered.ensures
