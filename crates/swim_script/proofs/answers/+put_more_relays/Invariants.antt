use Rattle.std.proofs.Common.{length}
use Rattle.swim_script.proofs.answers.+put_more_relays.Given as goal

abbrev pub decreases-put_more_relays : goal.decreases-put_more_relays
decreases-put_more_relays g l = length l.relays.now
