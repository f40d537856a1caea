use Rattle.std.proofs.Common.{length}
use Rattle.swim_metrics.proofs.samples.+put_buckets.Given as goal

abbrev pub decreases-put_buckets : goal.decreases-put_buckets
decreases-put_buckets g l = length l.buckets.now
