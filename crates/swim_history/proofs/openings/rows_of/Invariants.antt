use Rattle.std.proofs.Common.{◌≡◌, length, take}
use Rattle.swim_history.specs.Check.{rows_up}
use Rattle.swim_history.proofs.openings.rows_of.Given as goal

-- the rows of the members so far
abbrev pub invariant-loop-member : goal.invariant-loop-member
invariant-loop-member l = (l.rows.items ≡ rows_up (take l.member-index l.members)) ×
    (length l.rows.items ≡ l.member-index)
