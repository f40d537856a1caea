use Rattle.std.proofs.Common.{◌≡◌, length, take}
use Rattle.swim_history.specs.declared.rows.Change.TheVariants.{Failed}
use Rattle.swim_history.specs.Changes.{after_change}
use Rattle.swim_history.proofs.openings.rows_with_failed.Given as goal

-- the rows so far
abbrev pub invariant-loop-row : goal.invariant-loop-row
invariant-loop-row l = (l.made.items ≡ after_change (Failed l.id l.number) (take l.row-index l.rows)) ×
    (length l.made.items ≡ l.row-index)
