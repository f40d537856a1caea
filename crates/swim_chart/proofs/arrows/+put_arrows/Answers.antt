use Rattle.std.proofs.Common.{sym, ap}
use Rattle.swim_text.specs.TwoPuts.{first_failed, both_put, first_and_others, others_of}
use Rattle.swim_chart.specs.Arrows.{arrow_text, arrows_text}
use Rattle.swim_chart.proofs.arrows.+put_arrows.Goals as goal

pub returns-then-not-put_arrow-clause-bytes : goal.returns-then-not-put_arrow-clause-bytes
returns-then-not-put_arrow-clause-bytes g t c =
    first_failed (g.W.Sink.written c.args.writer.now) (g.W.Sink.written c.put_arrow.new.writer)
    (arrow_text c.args.relays c.first-item.result) (arrows_text c.args.relays (others_of c.args.arrows.now))
    (arrows_text c.args.relays c.args.arrows.now)
    (ap (arrows_text c.args.relays)
    (sym (first_and_others c.args.arrows.now c.first-item.result c.in-len1-up.len_at_least c.first-item.is)))
    c.if-not-put_arrow.ensures.bytes

pub returns-clause-bytes : goal.returns-clause-bytes
returns-clause-bytes g t c =
    both_put (g.W.Sink.written c.args.writer.now) (g.W.Sink.written c.put_arrow.new.writer)
    (g.W.Sink.written c.put_arrows.new.writer)
    (arrow_text c.args.relays c.first-item.result) (arrows_text c.args.relays (others_of c.args.arrows.now))
    (arrows_text c.args.relays c.args.arrows.now) c.put_arrows.result
    (ap (arrows_text c.args.relays)
    (sym (first_and_others c.args.arrows.now c.first-item.result c.in-len1-up.len_at_least c.first-item.is)))
    c.if-not-put_arrow.ensures.bytes c.put_arrows.ensures.bytes
