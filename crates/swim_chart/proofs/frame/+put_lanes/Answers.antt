use Rattle.std.proofs.Common.{sym, ap}
use Rattle.swim_text.specs.TwoPuts.{first_failed, both_put, first_and_others, others_of}
use Rattle.swim_chart.specs.Frame.{lane_text, lanes_text}
use Rattle.swim_chart.proofs.frame.+put_lanes.Goals as goal

pub returns-then-not-put_lane-clause-bytes : goal.returns-then-not-put_lane-clause-bytes
returns-then-not-put_lane-clause-bytes g t c =
    first_failed (g.W.Sink.written c.args.writer.now) (g.W.Sink.written c.put_lane.new.writer)
    (lane_text c.args.relays c.first-item.result) (lanes_text c.args.relays (others_of c.args.lanes.now))
    (lanes_text c.args.relays c.args.lanes.now)
    (ap (lanes_text c.args.relays)
    (sym (first_and_others c.args.lanes.now c.first-item.result c.in-len1-up.len_at_least c.first-item.is)))
    c.if-not-put_lane.ensures.bytes

pub returns-clause-bytes : goal.returns-clause-bytes
returns-clause-bytes g t c =
    both_put (g.W.Sink.written c.args.writer.now) (g.W.Sink.written c.put_lane.new.writer)
    (g.W.Sink.written c.put_lanes.new.writer)
    (lane_text c.args.relays c.first-item.result) (lanes_text c.args.relays (others_of c.args.lanes.now))
    (lanes_text c.args.relays c.args.lanes.now) c.put_lanes.result
    (ap (lanes_text c.args.relays)
    (sym (first_and_others c.args.lanes.now c.first-item.result c.in-len1-up.len_at_least c.first-item.is)))
    c.if-not-put_lane.ensures.bytes c.put_lanes.ensures.bytes
