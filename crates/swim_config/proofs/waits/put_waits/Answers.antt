use Rattle.swim_text.specs.Streams.{puts_less, puts_then}
use Rattle.swim_config.specs.Warnings.{rtt_ms, short_rtt_text, ticks_and_relays_text}
use Rattle.swim_config.proofs.waits.put_waits.Goals as goal

pub returns-then-not-put_rtt-clause-bytes : goal.returns-then-not-put_rtt-clause-bytes
returns-then-not-put_rtt-clause-bytes g c =
    puts_less (g.W.Sink.written c.args.writer.now) (g.W.Sink.written c.put_rtt.new.writer)
    (short_rtt_text (rtt_ms c.args.config.now))
    (ticks_and_relays_text c.args.config.now)
    c.if-not-put_rtt.ensures.bytes

pub returns-clause-bytes : goal.returns-clause-bytes
returns-clause-bytes g c =
    puts_then (g.W.Sink.written c.args.writer.now) (g.W.Sink.written c.put_rtt.new.writer)
    (g.W.Sink.written c.put_ticks_and_relays.new.writer)
    (short_rtt_text (rtt_ms c.args.config.now))
    (ticks_and_relays_text c.args.config.now)
    c.put_ticks_and_relays.result c.if-not-put_rtt.ensures.bytes c.put_ticks_and_relays.ensures.bytes
