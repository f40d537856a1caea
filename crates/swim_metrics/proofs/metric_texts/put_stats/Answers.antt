use Rattle.std.proofs.Common.{codes}
use Rattle.swim_text.specs.Streams.{puts_less, puts_then}
use Rattle.swim_metrics.specs.Families.{told}
use Rattle.swim_metrics.specs.Texts.{families_lines}
use Rattle.swim_metrics.proofs.metric_texts.put_stats.Goals as goal

pub returns-then-not-put_told-clause-bytes : goal.returns-then-not-put_told-clause-bytes
returns-then-not-put_told-clause-bytes g c =
    puts_less (g.W.Sink.written c.args.writer.now) (g.W.Sink.written c.put_told.new.writer)
    (families_lines c.args.measures.now c.args.outside.now (told c.args.outside.now)) (codes ".\n")
    c.if-not-put_told.ensures.bytes

pub returns-clause-bytes : goal.returns-clause-bytes
returns-clause-bytes g c =
    puts_then (g.W.Sink.written c.args.writer.now) (g.W.Sink.written c.put_told.new.writer)
    (g.W.Sink.written c.put.new.self)
    (families_lines c.args.measures.now c.args.outside.now (told c.args.outside.now)) (codes ".\n")
    c.put.result c.if-not-put_told.ensures.bytes c.put.ensures.bytes
