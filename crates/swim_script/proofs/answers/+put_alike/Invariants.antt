use Rattle.std.proofs.Common.{length}
use Rattle.swim_script.proofs.answers.+put_alike.Given as goal

abbrev pub decreases-put_alike : goal.decreases-put_alike
decreases-put_alike g l = length l.sent.now
