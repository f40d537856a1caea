use Rattle.std.proofs.Common.{length}
use Rattle.swim_chart.proofs.escapes.+put_escaped.Given as goal

abbrev pub decreases-put_escaped : goal.decreases-put_escaped
decreases-put_escaped g l = length l.text.now
