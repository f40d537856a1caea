use Rattle.std.proofs.Common.{length}
use Rattle.swim_verdicts.proofs.shell_words.+put_signs.Given as goal

abbrev pub decreases-put_signs : goal.decreases-put_signs
decreases-put_signs g l = length l.text.now
