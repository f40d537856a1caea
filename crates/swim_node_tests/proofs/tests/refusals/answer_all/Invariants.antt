use Rattle.std.proofs.Common.{◌≡◌}
use Rattle.swim_node_tests.proofs.tests.refusals.answer_all.Given as goal

-- the seat keeps its number
abbrev pub invariant-loop-place : goal.invariant-loop-place
invariant-loop-place g l = l.seat.number ≡ l.fn.seat.number
