use Rattle.std.proofs.Common.{◌≡◌, [], drop}
use Rattle.swim_timeline.specs.Lanes.{with_rows}
use Rattle.swim_timeline.proofs.lanes.lanes_of.Given as goal

-- the lanes so far with those of the rows to come are the lanes of all rows
abbrev pub invariant-loop-row : goal.invariant-loop-row
invariant-loop-row l = with_rows l.lanes.entries (drop l.row-index l.rows) ≡ with_rows [] l.rows
