use Rattle.std.proofs.Common.{length}
use Rattle.swim_chart.proofs.arrows.+put_arrows.Given as goal

abbrev pub decreases-put_arrows : goal.decreases-put_arrows
decreases-put_arrows g l = length l.arrows.now
