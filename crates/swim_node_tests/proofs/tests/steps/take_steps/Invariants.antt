use Rattle.std.proofs.Common.{◌≡◌}
use Rattle.swim_node_tests.proofs.tests.steps.take_steps.Given as goal

-- the seat keeps its number
abbrev pub invariant-loop-step : goal.invariant-loop-step
invariant-loop-step g l = l.seat.number ≡ l.fn.seat.number
