-- A life that ends for a full journal has one.
use Rattle.std.proofs.Common.{◌≡◌, ◌⊎◌, ℕ, ◌<◌, Bool, true, false, List, [], ◌∷◌, length, Option, Some, None}
use Rattle.std.proofs.Common.{sym, subst, ap, ◌∙◌, inl, inr}
use Rattle.std.specs.Prelude.{nat_lt, if◌then◌else◌}
use Rattle.std.specs.Option.{unwrap_or}
use Rattle.swim_history.specs.declared.entries.Entry.{Entry}
use Rattle.swim_node.specs.OneHistory.{AreFullWhereMet}
use Rattle.swim_node.specs.Seats.{Seated}
use Rattle.swim_work.specs.declared.counts.Why.{Why}
use Rattle.swim_work.specs.declared.counts.Why.TheVariants.{JournalFull, NoMemory, Stopped}
use Rattle.swim_work.specs.Ends.{graver, gravity}
use Rattle.swim_crew.specs.declared.pasts.Ends.{Ends}
use Rattle.swim_crew.specs.Ends.{reason, why_ended}

either : {A : Type 0} (which : Bool) (one other it : A) → (if which then one else other) ≡ it →
    (one ≡ it) ⊎ (other ≡ it)
either true one other it is = inl is
either false one other it is = inr is

graver_of : (one other it : Why) → graver one other ≡ it → (other ≡ it) ⊎ (one ≡ it)
graver_of one other it is = either (nat_lt (gravity one) (gravity other)) other one it is

of_began : (all_began : Bool) → (if all_began then Stopped else NoMemory) ≡ JournalFull → ⊥
of_began true is = cc is
of_began false is = cc is

was_full : (why : Option Why) → unwrap_or why Stopped ≡ JournalFull → why ≡ Some JournalFull
was_full None is = absurd (cc is)
was_full (Some why) is = ap Some is

pub life_full : (limit : ℕ) (past : List Entry) (seats : List Seated) (first second third fourth : Seated)
    (ends : Ends) (why : Why) → AreFullWhereMet limit past seats → seats ≡ first ∷ second ∷ third ∷ fourth ∷ [] →
    (ends.first.why ≡ Some JournalFull → 0 < first.full) → (ends.second.why ≡ Some JournalFull → 0 < second.full) →
    (ends.third.why ≡ Some JournalFull → 0 < third.full) →
    why ≡ why_ended ends → why ≡ JournalFull → length past ≡ limit
life_full limit past seats first second third fourth ends why all are one two three is full =
    let each = subst (λ s. AreFullWhereMet limit past s) are all in
    let x = reason ends.first in
    let y = reason ends.second in
    let z = reason ends.third in
    let began = if ends.all_began then Stopped else NoMemory in
    elim (graver_of (graver (graver x y) z) began JournalFull (sym is ∙ full)) [
      | inl missing ↦ absurd (of_began ends.all_began missing)
      | inr workers ↦ elim (graver_of (graver x y) z JournalFull workers) [
        | inl third_is ↦ each.1.1.0 (three (was_full ends.third.why third_is))
        | inr two_are ↦ elim (graver_of x y JournalFull two_are) [
          | inl second_is ↦ each.1.0 (two (was_full ends.second.why second_is))
          | inr first_is ↦ each.0 (one (was_full ends.first.why first_is))
        ]
      ]
    ]
