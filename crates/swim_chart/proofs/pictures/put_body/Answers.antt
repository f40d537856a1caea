use Rattle.std.proofs.Common.{◌++◌, false}
use Rattle.swim_text.specs.Streams.{puts_less, puts_then}
use Rattle.swim_chart.specs.Charts.{drawn_text}
use Rattle.swim_chart.specs.Frame.{end_text, lanes_text}
use Rattle.swim_chart.proofs.pictures.put_body.Goals as goal

pub returns-then-not-put_lanes-clause-bytes : goal.returns-then-not-put_lanes-clause-bytes
returns-then-not-put_lanes-clause-bytes g c =
    let chart = c.args.chart.now in
    puts_less (g.W.Sink.written c.args.writer.now) (g.W.Sink.written c.put_lanes.new.writer)
    (lanes_text chart.relays chart.lanes.now)
    (end_text chart.relays chart.judged ++ drawn_text chart.relays chart.arrows.now)
    c.if-not-put_lanes.ensures.bytes

pub returns-then-not-put_end-clause-bytes : goal.returns-then-not-put_end-clause-bytes
returns-then-not-put_end-clause-bytes g c =
    let chart = c.args.chart.now in
    puts_then (g.W.Sink.written c.args.writer.now) (g.W.Sink.written c.put_lanes.new.writer)
    (g.W.Sink.written c.put_end.new.writer) (lanes_text chart.relays chart.lanes.now)
    (end_text chart.relays chart.judged ++ drawn_text chart.relays chart.arrows.now) false
    c.if-not-put_lanes.ensures.bytes
    (puts_less (g.W.Sink.written c.put_lanes.new.writer) (g.W.Sink.written c.put_end.new.writer)
    (end_text chart.relays chart.judged) (drawn_text chart.relays chart.arrows.now) c.if-not-put_end.ensures.bytes)

pub returns-clause-bytes : goal.returns-clause-bytes
returns-clause-bytes g c =
    let chart = c.args.chart.now in
    puts_then (g.W.Sink.written c.args.writer.now) (g.W.Sink.written c.put_lanes.new.writer)
    (g.W.Sink.written c.put_drawn.new.writer) (lanes_text chart.relays chart.lanes.now)
    (end_text chart.relays chart.judged ++ drawn_text chart.relays chart.arrows.now) c.put_drawn.result
    c.if-not-put_lanes.ensures.bytes
    (puts_then (g.W.Sink.written c.put_lanes.new.writer) (g.W.Sink.written c.put_end.new.writer)
    (g.W.Sink.written c.put_drawn.new.writer)
    (end_text chart.relays chart.judged) (drawn_text chart.relays chart.arrows.now) c.put_drawn.result
    c.if-not-put_end.ensures.bytes c.put_drawn.ensures.bytes)
