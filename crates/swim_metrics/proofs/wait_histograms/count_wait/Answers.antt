use Rattle.std.proofs.Common.{arith}
use Rattle.swim_metrics.specs.Following.{bucket_then}
use Rattle.swim_metrics.proofs.Buckets.{map_from_each}
use Rattle.swim_metrics.proofs.wait_histograms.count_wait.Goals as goal

pub returns : goal.returns
returns c =
    map_from_each (bucket_then c.args.wait) c.loop-bucket.buckets c.args.buckets.now c.loop-bucket.invariant.same
    (λ k d within. c.loop-bucket.invariant.counted k d (omega (arith, within, c.loop-bucket-test.false)))
