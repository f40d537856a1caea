use Rattle.std.proofs.Common.{rules, List, [], ◌++◌, codes, decimal, subst, ℕ}
use Rattle.swim_text.specs.Streams.{Puts}
use Rattle.swim_text.specs.TwoPuts.{first_failed, both_put}
use Rattle.swim_metrics.specs.Families.{escaped, version_sample}
use Rattle.swim_metrics.specs.Texts.{samples_text}
use Rattle.swim_metrics.proofs.Lines.{version_line}
use Rattle.swim_metrics.proofs.samples.put_version.Goals as goal

pub returns-then-not-put_pieces-clause-bytes : goal.returns-then-not-put_pieces-clause-bytes
returns-then-not-put_pieces-clause-bytes g c =
    first_failed (g.W.Sink.written c.args.writer.now) (g.W.Sink.written c.put_pieces.new.writer)
    (c.as_bytes.result.now ++ (codes "{member=\"" ++ (decimal c.from.result ++ (codes "\",version=\"" ++ []))))
    (escaped c.args.version.now ++ codes "\"} 1\n")
    (samples_text c.args.series.now.me c.args.series.now.name.now (version_sample c.args.version.now))
    (version_line c.args.series.now.me c.from.result c.as_bytes.result.now c.args.series.now.name.now
    c.args.version.now (search rules) c.as_bytes.ensures.value)
    c.if-not-put_pieces.ensures.bytes

pub returns-clause-bytes : goal.returns-clause-bytes
returns-clause-bytes g c =
    let P : List ℕ → Type 0 =
    λ v. Puts (g.W.Sink.written c.put_pieces.new.writer) (g.W.Sink.written c.put_version_on.new.writer)
    (escaped v ++ codes "\"} 1\n") c.put_version_on.result in
    both_put (g.W.Sink.written c.args.writer.now) (g.W.Sink.written c.put_pieces.new.writer)
    (g.W.Sink.written c.put_version_on.new.writer)
    (c.as_bytes.result.now ++ (codes "{member=\"" ++ (decimal c.from.result ++ (codes "\",version=\"" ++ []))))
    (escaped c.args.version.now ++ codes "\"} 1\n")
    (samples_text c.args.series.now.me c.args.series.now.name.now (version_sample c.args.version.now))
    c.put_version_on.result
    (version_line c.args.series.now.me c.from.result c.as_bytes.result.now c.args.series.now.name.now
    c.args.version.now (search rules) c.as_bytes.ensures.value)
    c.if-not-put_pieces.ensures.bytes (subst P c.as_bytes-2.ensures.value c.put_version_on.ensures.bytes)
