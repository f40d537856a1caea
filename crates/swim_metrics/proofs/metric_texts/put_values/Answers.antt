use Rattle.std.proofs.Common.{List, subst, ℕ}
use Rattle.swim_text.specs.Streams.{Puts}
use Rattle.swim_metrics.specs.Families.{family_of}
use Rattle.swim_metrics.specs.Told.{samples_of}
use Rattle.swim_metrics.proofs.Lines.{lines_of}
use Rattle.swim_metrics.proofs.metric_texts.put_values.Goals as goal

pub returns-clause-bytes : goal.returns-clause-bytes
returns-clause-bytes g c =
    let P : List ℕ → Type 0 =
    λ t. Puts (g.W.Sink.written c.args.writer.now) (g.W.Sink.written c.put_samples.new.writer) t
    c.put_samples.result in
    subst P (lines_of c.args.outside.now.me c.family-family.result.name.now (samples_of c.family-family.result.samples)
    (family_of c.args.measures.now c.args.outside.now c.args.metric) c.family-family.ensures.name
    c.family-family.ensures.samples)
    c.put_samples.ensures.bytes
