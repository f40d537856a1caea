use Rattle.std.proofs.Common.{◌≡◌}
use Rattle.swim_crew_tests.proofs.tests.workers.TickingWorker.tick_on.Given as goal

abbrev pub invariant-loop-turn : goal.invariant-loop-turn
invariant-loop-turn g l = l.caller.seat.number ≡ l.initial.caller.seat.number
