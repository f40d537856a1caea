use Rattle.std.proofs.Common.{map}
use Rattle.swim_text.specs.TwoPuts.{first_failed, both_put}
use Rattle.swim_metrics.specs.Families.{bucket_sample, total_samples, wait_samples}
use Rattle.swim_metrics.specs.Texts.{samples_text}
use Rattle.swim_metrics.proofs.Lines.{wait_lines}
use Rattle.swim_metrics.proofs.samples.put_waits.Goals as goal

pub returns-then-not-put_buckets-clause-bytes : goal.returns-then-not-put_buckets-clause-bytes
returns-then-not-put_buckets-clause-bytes g c =
    first_failed (g.W.Sink.written c.args.writer.now) (g.W.Sink.written c.put_buckets.new.writer)
    (samples_text c.args.series.now.me c.args.series.now.name.now (map bucket_sample c.args.waits.now.buckets))
    (samples_text c.args.series.now.me c.args.series.now.name.now (total_samples c.args.waits.now))
    (samples_text c.args.series.now.me c.args.series.now.name.now (wait_samples c.args.waits.now))
    (wait_lines c.args.series.now.me c.args.series.now.name.now c.args.waits.now) c.if-not-put_buckets.ensures.bytes

pub returns-clause-bytes : goal.returns-clause-bytes
returns-clause-bytes g c =
    both_put (g.W.Sink.written c.args.writer.now) (g.W.Sink.written c.put_buckets.new.writer)
    (g.W.Sink.written c.put_each.new.writer)
    (samples_text c.args.series.now.me c.args.series.now.name.now (map bucket_sample c.args.waits.now.buckets))
    (samples_text c.args.series.now.me c.args.series.now.name.now (total_samples c.args.waits.now))
    (samples_text c.args.series.now.me c.args.series.now.name.now (wait_samples c.args.waits.now)) c.put_each.result
    (wait_lines c.args.series.now.me c.args.series.now.name.now c.args.waits.now)
    c.if-not-put_buckets.ensures.bytes c.put_each.ensures.bytes
