use Rattle.std.proofs.Common.{List, rules, subst, ℕ}
use Rattle.swim_text.specs.Streams.{Puts}
use Rattle.swim_metrics.proofs.Lines.{key_line}
use Rattle.swim_metrics.proofs.key_samples.put_key.Goals as goal

pub returns-clause-bytes : goal.returns-clause-bytes
returns-clause-bytes g c =
    let P : List ℕ → Type 0 =
    λ t. Puts (g.W.Sink.written c.args.writer.now) (g.W.Sink.written c.put_pieces.new.writer) t
    c.put_pieces.result in
    subst P (key_line c.args.series.now.me c.from.result c.args.place c.as_bytes.result.now
    c.args.series.now.name.now c.args.fingerprint.now (search rules) c.as_bytes.ensures.value)
    c.put_pieces.ensures.bytes
