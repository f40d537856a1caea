use Rattle.std.proofs.Common.{◌++◌, false}
use Rattle.swim_text.specs.Streams.{puts_less, puts_then}
use Rattle.swim_chart.specs.Frame.{escaped, root_text, titled_text}
use Rattle.swim_chart.specs.declared.style.TheConstants.{LEGEND}
use Rattle.swim_chart.proofs.frame.put_head.Goals as goal

pub returns-then-not-put_root-clause-bytes : goal.returns-then-not-put_root-clause-bytes
returns-then-not-put_root-clause-bytes g c =
    puts_less (g.W.Sink.written c.args.writer.now) (g.W.Sink.written c.put_root.new.writer)
    (root_text c.args.relays) (titled_text c.args.probe.now ++ (escaped c.args.conclusion.now ++ LEGEND.now))
    c.if-not-put_root.ensures.bytes

pub returns-then-not-put_titled-clause-bytes : goal.returns-then-not-put_titled-clause-bytes
returns-then-not-put_titled-clause-bytes g c =
    puts_then (g.W.Sink.written c.args.writer.now) (g.W.Sink.written c.put_root.new.writer)
    (g.W.Sink.written c.put_titled.new.writer) (root_text c.args.relays)
    (titled_text c.args.probe.now ++ (escaped c.args.conclusion.now ++ LEGEND.now)) false
    c.if-not-put_root.ensures.bytes
    (puts_less (g.W.Sink.written c.put_root.new.writer) (g.W.Sink.written c.put_titled.new.writer)
    (titled_text c.args.probe.now) (escaped c.args.conclusion.now ++ LEGEND.now) c.if-not-put_titled.ensures.bytes)

pub returns-clause-bytes : goal.returns-clause-bytes
returns-clause-bytes g c =
    puts_then (g.W.Sink.written c.args.writer.now) (g.W.Sink.written c.put_root.new.writer)
    (g.W.Sink.written c.put_conclusion.new.writer) (root_text c.args.relays)
    (titled_text c.args.probe.now ++ (escaped c.args.conclusion.now ++ LEGEND.now)) c.put_conclusion.result
    c.if-not-put_root.ensures.bytes
    (puts_then (g.W.Sink.written c.put_root.new.writer) (g.W.Sink.written c.put_titled.new.writer)
    (g.W.Sink.written c.put_conclusion.new.writer)
    (titled_text c.args.probe.now) (escaped c.args.conclusion.now ++ LEGEND.now) c.put_conclusion.result
    c.if-not-put_titled.ensures.bytes (rw c.as_bytes.ensures.value at c.put_conclusion.ensures.bytes))
