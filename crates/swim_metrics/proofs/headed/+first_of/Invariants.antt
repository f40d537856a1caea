use Rattle.std.proofs.Common.{length}
use Rattle.swim_metrics.proofs.headed.+first_of.Given as goal

abbrev pub decreases-first_of : goal.decreases-first_of
decreases-first_of l = length l.metrics.now
