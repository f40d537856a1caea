use Rattle.swim_text.specs.Streams.{puts_less, puts_then}
use Rattle.swim_config.specs.Warnings.{long_period_text, period_ms, waits_and_guesses_text}
use Rattle.swim_config.proofs.warnings.put_times.Goals as goal

pub returns-then-not-put_period-clause-bytes : goal.returns-then-not-put_period-clause-bytes
returns-then-not-put_period-clause-bytes g c =
    puts_less (g.W.Sink.written c.args.writer.now) (g.W.Sink.written c.put_period.new.writer)
    (long_period_text (period_ms c.args.config.now))
    (waits_and_guesses_text c.args.config.now)
    c.if-not-put_period.ensures.bytes

pub returns-clause-bytes : goal.returns-clause-bytes
returns-clause-bytes g c =
    puts_then (g.W.Sink.written c.args.writer.now) (g.W.Sink.written c.put_period.new.writer)
    (g.W.Sink.written c.put_waits_and_guesses.new.writer)
    (long_period_text (period_ms c.args.config.now))
    (waits_and_guesses_text c.args.config.now)
    c.put_waits_and_guesses.result c.if-not-put_period.ensures.bytes c.put_waits_and_guesses.ensures.bytes
