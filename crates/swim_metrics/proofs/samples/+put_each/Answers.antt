use Rattle.std.proofs.Common.{map}
use Rattle.swim_text.specs.TwoPuts.{first_failed, both_put, others_of}
use Rattle.swim_metrics.specs.Texts.{samples_text}
use Rattle.swim_metrics.specs.Told.{labelled_of}
use Rattle.swim_metrics.proofs.Lines.{first_line}
use Rattle.swim_metrics.proofs.samples.+put_each.Goals as goal

pub returns-then-not-put_one-clause-bytes : goal.returns-then-not-put_one-clause-bytes
returns-then-not-put_one-clause-bytes g t c =
    first_failed (g.W.Sink.written c.args.writer.now) (g.W.Sink.written c.put_one.new.writer) _
    (samples_text c.args.series.now.me c.args.series.now.name.now (map labelled_of (others_of c.args.values.now)))
    (samples_text c.args.series.now.me c.args.series.now.name.now (map labelled_of c.args.values.now))
    (first_line labelled_of c.args.series.now.me c.args.series.now.name.now c.args.values.now _
    c.in-len1-up.len_at_least)
    c.if-not-put_one.ensures.bytes

pub returns-clause-bytes : goal.returns-clause-bytes
returns-clause-bytes g t c =
    both_put (g.W.Sink.written c.args.writer.now) (g.W.Sink.written c.put_one.new.writer)
    (g.W.Sink.written c.put_each.new.writer) _
    (samples_text c.args.series.now.me c.args.series.now.name.now (map labelled_of (others_of c.args.values.now)))
    (samples_text c.args.series.now.me c.args.series.now.name.now (map labelled_of c.args.values.now))
    c.put_each.result
    (first_line labelled_of c.args.series.now.me c.args.series.now.name.now c.args.values.now _
    c.in-len1-up.len_at_least)
    c.if-not-put_one.ensures.bytes c.put_each.ensures.bytes
