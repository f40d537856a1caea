use Rattle.std.proofs.Common.{length}
use Rattle.swim_metrics.proofs.key_samples.+put_keys_behind.Given as goal

abbrev pub decreases-put_keys_behind : goal.decreases-put_keys_behind
decreases-put_keys_behind g l = length l.fingerprints.now
