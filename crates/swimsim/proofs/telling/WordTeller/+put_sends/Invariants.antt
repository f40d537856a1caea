use Rattle.std.proofs.Common.{length}
use Rattle.swimsim.proofs.telling.WordTeller.+put_sends.Given as goal

abbrev pub decreases-put_sends : goal.decreases-put_sends
decreases-put_sends g l = length l.sent.now
