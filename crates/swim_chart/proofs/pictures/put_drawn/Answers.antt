use Rattle.swim_text.specs.Streams.{puts_less, puts_then}
use Rattle.swim_chart.specs.Arrows.{arrows_text}
use Rattle.swim_chart.specs.Charts.{noted_text}
use Rattle.swim_chart.proofs.pictures.put_drawn.Goals as goal

pub returns-then-not-put_arrows-clause-bytes : goal.returns-then-not-put_arrows-clause-bytes
returns-then-not-put_arrows-clause-bytes g c =
    puts_less (g.W.Sink.written c.args.writer.now) (g.W.Sink.written c.put_arrows.new.writer)
    (arrows_text c.args.relays c.args.arrows.now) (noted_text c.args.relays c.args.arrows.now)
    c.if-not-put_arrows.ensures.bytes

pub returns-clause-bytes : goal.returns-clause-bytes
returns-clause-bytes g c =
    puts_then (g.W.Sink.written c.args.writer.now) (g.W.Sink.written c.put_arrows.new.writer)
    (g.W.Sink.written c.put_noted.new.writer)
    (arrows_text c.args.relays c.args.arrows.now) (noted_text c.args.relays c.args.arrows.now) c.put_noted.result
    c.if-not-put_arrows.ensures.bytes c.put_noted.ensures.bytes
