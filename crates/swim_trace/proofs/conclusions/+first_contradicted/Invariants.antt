use Rattle.std.proofs.Common.{length}
use Rattle.swim_trace.proofs.conclusions.+first_contradicted.Given as goal

abbrev pub decreases-first_contradicted : goal.decreases-first_contradicted
decreases-first_contradicted l = length l.ways.now
