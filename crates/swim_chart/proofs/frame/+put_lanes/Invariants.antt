use Rattle.std.proofs.Common.{length}
use Rattle.swim_chart.proofs.frame.+put_lanes.Given as goal

abbrev pub decreases-put_lanes : goal.decreases-put_lanes
decreases-put_lanes g l = length l.lanes.now
