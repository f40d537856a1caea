use Rattle.std.proofs.Common.{length}
use Rattle.swim_verdicts.proofs.html.+put_html.Given as goal

abbrev pub decreases-put_html : goal.decreases-put_html
decreases-put_html g l = length l.text.now
