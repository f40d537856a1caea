use Rattle.std.proofs.Common.{length}
use Rattle.swim_watch.proofs.laws.+events_are_said.Given as goal

abbrev pub decreases-events_are_said : goal.decreases-events_are_said
decreases-events_are_said l = length l.events.now
