use Rattle.swim_text.specs.Streams.{puts_less, puts_then}
use Rattle.swim_chart.specs.Frame.{escaped}
use Rattle.swim_chart.specs.declared.style.TheConstants.{LEGEND}
use Rattle.swim_chart.proofs.frame.put_conclusion.Goals as goal

pub returns-then-not-put_escaped-clause-bytes : goal.returns-then-not-put_escaped-clause-bytes
returns-then-not-put_escaped-clause-bytes g c =
    puts_less (g.W.Sink.written c.args.writer.now) (g.W.Sink.written c.put_escaped.new.writer)
    (escaped c.args.conclusion.now) LEGEND.now c.if-not-put_escaped.ensures.bytes

pub returns-clause-bytes : goal.returns-clause-bytes
returns-clause-bytes g c =
    puts_then (g.W.Sink.written c.args.writer.now) (g.W.Sink.written c.put_escaped.new.writer)
    (g.W.Sink.written c.put.new.self) (escaped c.args.conclusion.now) LEGEND.now c.put.result
    c.if-not-put_escaped.ensures.bytes (rw c.as_bytes.ensures.value at c.put.ensures.bytes)
