use Rattle.std.proofs.Common.{length}
use Rattle.swim_metrics.proofs.member_figures.+carry.Given as goal

abbrev pub decreases-carry : goal.decreases-carry
decreases-carry l = length l.table.now
