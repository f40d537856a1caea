use Rattle.std.proofs.Common.{map}
use Rattle.swim_text.specs.TwoPuts.{first_failed, both_put, others_of}
use Rattle.swim_metrics.specs.Families.{bucket_sample}
use Rattle.swim_metrics.specs.Texts.{samples_text}
use Rattle.swim_metrics.proofs.Lines.{first_line}
use Rattle.swim_metrics.proofs.samples.+put_buckets.Goals as goal

pub returns-then-not-put_bucket-clause-bytes : goal.returns-then-not-put_bucket-clause-bytes
returns-then-not-put_bucket-clause-bytes g t c =
    first_failed (g.W.Sink.written c.args.writer.now) (g.W.Sink.written c.put_bucket.new.writer) _
    (samples_text c.args.series.now.me c.args.series.now.name.now (map bucket_sample (others_of c.args.buckets.now)))
    (samples_text c.args.series.now.me c.args.series.now.name.now (map bucket_sample c.args.buckets.now))
    (first_line bucket_sample c.args.series.now.me c.args.series.now.name.now c.args.buckets.now _
    c.in-len1-up.len_at_least)
    c.if-not-put_bucket.ensures.bytes

pub returns-clause-bytes : goal.returns-clause-bytes
returns-clause-bytes g t c =
    both_put (g.W.Sink.written c.args.writer.now) (g.W.Sink.written c.put_bucket.new.writer)
    (g.W.Sink.written c.put_buckets.new.writer) _
    (samples_text c.args.series.now.me c.args.series.now.name.now (map bucket_sample (others_of c.args.buckets.now)))
    (samples_text c.args.series.now.me c.args.series.now.name.now (map bucket_sample c.args.buckets.now))
    c.put_buckets.result
    (first_line bucket_sample c.args.series.now.me c.args.series.now.name.now c.args.buckets.now _
    c.in-len1-up.len_at_least)
    c.if-not-put_bucket.ensures.bytes c.put_buckets.ensures.bytes
