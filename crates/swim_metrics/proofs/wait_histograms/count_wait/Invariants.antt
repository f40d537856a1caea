use Rattle.std.proofs.Common.{◌≡◌, ℕ, ◌<◌, ◌≤◌, length, get_or}
use Rattle.swim_metrics.specs.Following.{bucket_then}
use Rattle.swim_metrics.specs.declared.wait_histograms.HistogramBucket.{HistogramBucket}
use Rattle.swim_metrics.proofs.wait_histograms.count_wait.Given as goal

-- those before have one wait more, and the others are as they were
abbrev pub invariant-loop-bucket : goal.invariant-loop-bucket
invariant-loop-bucket l = record {
  same : length l.buckets ≡ length l.fn.buckets;
  counted : (k : ℕ) (d : HistogramBucket) → k < l.bucket-index →
      get_or l.buckets k d ≡ bucket_then l.wait (get_or l.fn.buckets k d);
  others : (k : ℕ) (d : HistogramBucket) → l.bucket-index ≤ k → get_or l.buckets k d ≡ get_or l.fn.buckets k d;
}
