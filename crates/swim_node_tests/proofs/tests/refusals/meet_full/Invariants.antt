use Rattle.std.proofs.Common.{◌≡◌}
use Rattle.swim_node_tests.proofs.tests.refusals.meet_full.Given as goal

-- the seat keeps its number
abbrev pub invariant-loop-call : goal.invariant-loop-call
invariant-loop-call g l = l.seat.number ≡ l.fn.seat.number
