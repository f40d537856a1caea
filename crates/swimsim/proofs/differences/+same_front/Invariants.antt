use Rattle.std.proofs.Common.{length}
use Rattle.swimsim.proofs.differences.+same_front.Given as goal

abbrev pub decreases-same_front : goal.decreases-same_front
decreases-same_front l = length l.left.now
