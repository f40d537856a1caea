-- What the workers of a life bring back.
use Rattle.std.specs.Prelude.{◌≡◌, ℕ, ◌<◌, List, [], Some}
use Rattle.swim_history.specs.declared.rows.Change.{Change}
use Rattle.swim_history.specs.Setting.{Setting}
use Rattle.swim_node.specs.Seats.{Seated}
use Rattle.swim_work.specs.declared.counts.Why.TheVariants.{JournalFull}
use Rattle.swim_work.specs.declared.workers.End.{End}

-- nobody has called with the seat of this number
abbrev pub IsUncalled : ℕ → Seated → Type 0
IsUncalled n seat = (seat.number ≡ n) × (seat.calls ≡ []) × (seat.full ≡ 0)

-- a worker has worked with the seat of this number, and its viewer has seen these changes; if it ended because the
-- journal was full, the seat knows of that
pub record IsDone {A : Type 0} (works : A → Setting → ℕ → Seated → List Change → End → A → Type 0) (o : Setting)
    (limit n : ℕ) (old : A) (seat : Seated) (seen : List Change) (end : End) (new : A) : Type 0 where
  pub has_worked : works old o limit seat seen end new
  pub number : seat.number ≡ n
  pub full : end.why ≡ Some JournalFull → 0 < seat.full
