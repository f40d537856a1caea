-- What is told while a daemon starts.
use Rattle.std.proofs.Common.{◌≡◌, refl, sym, subst, inl, inr}
use Rattle.swim_config.specs.declared.config.Config.{Config}
use Rattle.swim_telling.specs.Notices.{Notices, notices_both}
use Rattle.swim_telling.specs.Telling.{Written}
use Rattle.swim_outcomes.specs.declared.outcomes.Outcome.{Outcome}
use Rattle.swimd.specs.Daemon.{IsNoDoor, IsNoEntrance, Starts}

pub three_noticed : (old first then new : Written) → Notices old first → Notices first then → Notices then new →
    Notices old new
three_noticed old first then new a b c = notices_both old first new a (notices_both first then new b c)

pub four_noticed : (old first second then new : Written) → Notices old first → Notices first second →
    Notices second then →
    Notices then new → Notices old new
four_noticed old first second then new a b c d =
    notices_both old first new a (three_noticed first second then new b c d)

-- without an entrance nothing was written
pub no_entrance : (config : Config) (old : Written) (outcome : Outcome) → IsNoEntrance outcome →
    Starts config old old outcome
no_entrance config old outcome is = subst (λ o. Starts config old old o) (sym is) refl

-- without a door nothing was written
pub no_door : (config : Config) (old : Written) (outcome : Outcome) → IsNoDoor outcome → Starts config old old outcome
no_door config old outcome is = elim is [
  | inl listens ↦ subst (λ o. Starts config old old o) (sym listens) refl
  | inr memory ↦ subst (λ o. Starts config old old o) (sym memory) refl
]
