-- What is counted as lives begin and go on.
use Rattle.std.proofs.Common.{◌≡◌, ℕ, List, [], ◌∷◌, Option, Some, None, refl, subst, ◌∙◌, arith}
use Rattle.swim_history.specs.declared.calls.Call.{Call}
use Rattle.swim_history.specs.declared.entries.Entry.{Entry}
use Rattle.swim_history.specs.declared.replies.Reply.{Reply}
use Rattle.swim_history.specs.Setting.{Setting}
use Rattle.swim_events.specs.Watched.{Lived, lived_on}
use Rattle.swim_work.specs.Ends.{both}
use Rattle.swim_recorder.specs.declared.reporters.Standing.{Standing}
use Rattle.swim_metrics.specs.Following.{Follows, Measured, begun}
use Rattle.swim_reports.specs.Booked.{AreCounted}
use Rattle.swim_reports.specs.Totals.{no_life, totals_with}
use Rattle.swim_reports.specs.declared.totals.Totals.{Totals}

both_again : (one other : ℕ) → both (both one other) 0 ≡ both one other
both_again one other = omega arith

-- a life that is over is added, and the next has counted nothing yet
pub totals_go_on : (over : Totals) (life : Standing) →
    totals_with (totals_with over life) no_life ≡ totals_with over life
totals_go_on over life =
    rw (
      both_again over.unsent life.metered.unsent,
      both_again over.wire life.metered.wire,
      both_again over.refused life.metered.refused,
      both_again over.knocks life.metered.knocks,
      both_again over.lost life.lost,
    ) refl

-- the first life begins
pub first_counted : (old : Option Measured) (m : Measured) (o : Setting) → old ≡ None →
    ((number : ℕ) → Follows m (begun number o [])) → (number : ℕ) (lives : List Lived) → AreCounted old lives →
    Follows m (begun number o lives)
first_counted old m o is follows number lives are = by lives (subst (λ k. AreCounted k lives) is are)
  where
    by : (older : List Lived) → AreCounted None older → Follows m (begun number o older)
    by [] counted = follows number
    by (life ∷ older) counted = absurd counted

-- and so does each after it
pub next_counted : (old : Option Measured) (m n : Measured) (o : Setting) → old ≡ Some m →
    ((number : ℕ) (lives : List Lived) → Follows m lives → Follows n (begun number o lives)) →
    (number : ℕ) (lives : List Lived) → AreCounted old lives → Follows n (begun number o lives)
next_counted old m n o is follows number lives are = follows number lives (subst (λ k. AreCounted k lives) is are)

-- a life goes on with a call
pub call_counted : (old : Option Measured) (m n : Measured) (call called : Call) (reply replied : Reply) →
    old ≡ Some m → call ≡ called → reply ≡ replied →
    ((life : Lived) (older : List Lived) (e : Entry) → e.call ≡ called → e.reply ≡ replied →
    Follows m (life ∷ older) → Follows n (lived_on life e ∷ older)) →
    (life : Lived) (older : List Lived) (e : Entry) → e.call ≡ call → e.reply ≡ reply →
    AreCounted old (life ∷ older) → Follows n (lived_on life e ∷ older)
call_counted old m n call called reply replied is same_call same_reply follows life older e made answered are =
    follows life older e (made ∙ same_call) (answered ∙ same_reply) (subst (λ k. AreCounted k (life ∷ older)) is are)
