use Rattle.std.proofs.Common.{length}
use Rattle.swim_reload.proofs.reloaded.+put_keys.Given as goal

abbrev pub decreases-put_keys : goal.decreases-put_keys
decreases-put_keys g l = length l.keys.now
