use Rattle.std.proofs.Common.{codes}
use Rattle.swim_text.specs.Streams.{puts_less, puts_then}
use Rattle.swim_metrics.specs.Families.{escaped}
use Rattle.swim_metrics.proofs.samples.put_version_on.Goals as goal

pub returns-then-not-put_escaped-clause-bytes : goal.returns-then-not-put_escaped-clause-bytes
returns-then-not-put_escaped-clause-bytes g c =
    puts_less (g.W.Sink.written c.args.writer.now) (g.W.Sink.written c.put_escaped.new.writer)
    (escaped c.args.version.now) (codes "\"} 1\n")
    c.if-not-put_escaped.ensures.bytes

pub returns-clause-bytes : goal.returns-clause-bytes
returns-clause-bytes g c =
    puts_then (g.W.Sink.written c.args.writer.now) (g.W.Sink.written c.put_escaped.new.writer)
    (g.W.Sink.written c.put.new.self) (escaped c.args.version.now) (codes "\"} 1\n")
    c.put.result c.if-not-put_escaped.ensures.bytes c.put.ensures.bytes
