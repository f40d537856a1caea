use Rattle.std.proofs.Common.{ap, length, map, ◌∙◌}
use Rattle.swim_metrics.specs.Following.{bucket_then}
use Rattle.swim_metrics.proofs.Buckets.{all_buckets_then, one_more_then, total_then}
use Rattle.swim_metrics.proofs.wait_histograms.Waits.add_one.Goals as goal

pub returns : goal.returns
returns c = λ ended waits is held. record {
  buckets = c.count_wait.ensures ∙ ap (map (bucket_then c.args.wait)) held.buckets ∙
      all_buckets_then waits ended c.args.wait is;
  total = total_then waits ended c.args.wait c.args.self.now.sum c.more-self.result is held.total c.more-self.ensures;
  number = one_more_then (length waits) c.args.self.now.count c.more-self-2.result held.number c.more-self-2.ensures;
}
