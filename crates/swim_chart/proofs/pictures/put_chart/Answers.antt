use Rattle.std.proofs.Common.{◌++◌}
use Rattle.swim_text.specs.Streams.{puts_less, puts_then}
use Rattle.swim_chart.specs.Charts.{drawn_text}
use Rattle.swim_chart.specs.Frame.{end_text, head_text, lanes_text}
use Rattle.swim_chart.proofs.pictures.put_chart.Goals as goal

pub returns-then-not-put_head-clause-bytes : goal.returns-then-not-put_head-clause-bytes
returns-then-not-put_head-clause-bytes g c =
    let chart = c.args.chart.now in
    puts_less (g.W.Sink.written c.args.writer.now) (g.W.Sink.written c.put_head.new.writer)
    (head_text chart.relays chart.probe chart.conclusion.now)
    (lanes_text chart.relays chart.lanes.now
    ++ (end_text chart.relays chart.judged ++ drawn_text chart.relays chart.arrows.now))
    c.if-not-put_head.ensures.bytes

pub returns-clause-bytes : goal.returns-clause-bytes
returns-clause-bytes g c =
    let chart = c.args.chart.now in
    puts_then (g.W.Sink.written c.args.writer.now) (g.W.Sink.written c.put_head.new.writer)
    (g.W.Sink.written c.put_body.new.writer)
    (head_text chart.relays chart.probe chart.conclusion.now)
    (lanes_text chart.relays chart.lanes.now
    ++ (end_text chart.relays chart.judged ++ drawn_text chart.relays chart.arrows.now))
    c.put_body.result c.if-not-put_head.ensures.bytes c.put_body.ensures.bytes
