use Rattle.std.proofs.Common.{length}
use Rattle.swim_watch.proofs.laws.+rows_are_said.Given as goal

abbrev pub decreases-rows_are_said : goal.decreases-rows_are_said
decreases-rows_are_said l = length l.rows.now
