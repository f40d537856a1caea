use Rattle.std.proofs.Common.{length}
use Rattle.swim_web.proofs.recent.+put_events.Given as goal

abbrev pub decreases-put_events : goal.decreases-put_events
decreases-put_events g l = length l.lines.now
