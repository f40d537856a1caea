use Rattle.std.proofs.Common.{length}
use Rattle.swim_text.specs.Streams.{puts_less, puts_then}
use Rattle.swim_config.specs.Warnings.{no_relays_text, one_tick_text}
use Rattle.swim_config.proofs.waits.put_ticks_and_relays.Goals as goal

pub returns-then-not-put_ticks-clause-bytes : goal.returns-then-not-put_ticks-clause-bytes
returns-then-not-put_ticks-clause-bytes g c =
    puts_less (g.W.Sink.written c.args.writer.now) (g.W.Sink.written c.put_ticks.new.writer)
    (one_tick_text c.args.config.now.opening.rtt c.args.config.now.tick_ms)
    (no_relays_text c.args.config.now.opening.k (length c.args.config.now.opening.rows))
    c.if-not-put_ticks.ensures.bytes

pub returns-clause-bytes : goal.returns-clause-bytes
returns-clause-bytes g c =
    puts_then (g.W.Sink.written c.args.writer.now) (g.W.Sink.written c.put_ticks.new.writer)
    (g.W.Sink.written c.put_relays.new.writer)
    (one_tick_text c.args.config.now.opening.rtt c.args.config.now.tick_ms)
    (no_relays_text c.args.config.now.opening.k (length c.args.config.now.opening.rows))
    c.put_relays.result c.if-not-put_ticks.ensures.bytes c.put_relays.ensures.bytes
