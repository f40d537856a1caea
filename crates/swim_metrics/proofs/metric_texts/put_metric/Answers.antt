use Rattle.swim_text.specs.TwoPuts.{first_failed, both_put}
use Rattle.swim_metrics.specs.Families.{family_of}
use Rattle.swim_metrics.specs.Texts.{family_text, head_text, samples_text}
use Rattle.swim_metrics.specs.Told.{samples_of}
use Rattle.swim_metrics.proofs.Lines.{text_of}
use Rattle.swim_metrics.proofs.metric_texts.put_metric.Goals as goal

pub returns-then-not-put_head-clause-bytes : goal.returns-then-not-put_head-clause-bytes
returns-then-not-put_head-clause-bytes g c =
    first_failed (g.W.Sink.written c.args.writer.now) (g.W.Sink.written c.put_head.new.writer)
    (head_text c.family-family.result.name.now c.family-family.result.help.now c.family-family.result.kind)
    (samples_text c.args.outside.now.me c.family-family.result.name.now
    (samples_of c.family-family.result.samples))
    (family_text c.args.outside.now.me (family_of c.args.measures.now c.args.outside.now c.args.metric))
    (text_of c.args.outside.now.me c.family-family.result.name.now c.family-family.result.help.now
    c.family-family.result.kind
    (samples_of c.family-family.result.samples) (family_of c.args.measures.now c.args.outside.now c.args.metric)
    c.family-family.ensures.name c.family-family.ensures.help c.family-family.ensures.kind
    c.family-family.ensures.samples)
    c.if-not-put_head.ensures.bytes

pub returns-clause-bytes : goal.returns-clause-bytes
returns-clause-bytes g c =
    both_put (g.W.Sink.written c.args.writer.now) (g.W.Sink.written c.put_head.new.writer)
    (g.W.Sink.written c.put_samples.new.writer)
    (head_text c.family-family.result.name.now c.family-family.result.help.now c.family-family.result.kind)
    (samples_text c.args.outside.now.me c.family-family.result.name.now
    (samples_of c.family-family.result.samples))
    (family_text c.args.outside.now.me (family_of c.args.measures.now c.args.outside.now c.args.metric))
    c.put_samples.result
    (text_of c.args.outside.now.me c.family-family.result.name.now c.family-family.result.help.now
    c.family-family.result.kind
    (samples_of c.family-family.result.samples) (family_of c.args.measures.now c.args.outside.now c.args.metric)
    c.family-family.ensures.name c.family-family.ensures.help c.family-family.ensures.kind
    c.family-family.ensures.samples)
    c.if-not-put_head.ensures.bytes c.put_samples.ensures.bytes
