use Rattle.std.proofs.Common.{length}
use Rattle.swim_text.specs.Streams.{puts_less, puts_then}
use Rattle.swim_config.specs.Warnings.{few_relays_text, times_text}
use Rattle.swim_config.proofs.warnings.put_relays_and_times.Goals as goal

pub returns-then-not-put_relays-clause-bytes : goal.returns-then-not-put_relays-clause-bytes
returns-then-not-put_relays-clause-bytes g c =
    puts_less (g.W.Sink.written c.args.writer.now) (g.W.Sink.written c.put_relays.new.writer)
    (few_relays_text c.args.config.now.opening.k (length c.args.config.now.opening.rows))
    (times_text c.args.config.now) c.if-not-put_relays.ensures.bytes

pub returns-clause-bytes : goal.returns-clause-bytes
returns-clause-bytes g c =
    puts_then (g.W.Sink.written c.args.writer.now) (g.W.Sink.written c.put_relays.new.writer)
    (g.W.Sink.written c.put_times.new.writer)
    (few_relays_text c.args.config.now.opening.k (length c.args.config.now.opening.rows))
    (times_text c.args.config.now) c.put_times.result c.if-not-put_relays.ensures.bytes c.put_times.ensures.bytes
