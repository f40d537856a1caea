use Rattle.std.proofs.Common.{◌≡◌}
use Rattle.swim_node_tests.proofs.tests.following.tick_often.Given as goal

-- the seat keeps its number
abbrev pub invariant-loop-turn : goal.invariant-loop-turn
invariant-loop-turn g l = l.seat.number ≡ l.fn.seat.number
