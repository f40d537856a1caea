use Rattle.swim_text.specs.Streams.{puts_less, puts_then}
use Rattle.swim_config.specs.Warnings.{verdicts_and_guesses_text, waits_text}
use Rattle.swim_config.proofs.warnings.put_waits_and_guesses.Goals as goal

pub returns-then-not-put_waits-clause-bytes : goal.returns-then-not-put_waits-clause-bytes
returns-then-not-put_waits-clause-bytes g c =
    puts_less (g.W.Sink.written c.args.writer.now) (g.W.Sink.written c.put_waits.new.writer)
    (waits_text c.args.config.now)
    (verdicts_and_guesses_text c.args.config.now)
    c.if-not-put_waits.ensures.bytes

pub returns-clause-bytes : goal.returns-clause-bytes
returns-clause-bytes g c =
    puts_then (g.W.Sink.written c.args.writer.now) (g.W.Sink.written c.put_waits.new.writer)
    (g.W.Sink.written c.put_verdicts_and_guesses.new.writer)
    (waits_text c.args.config.now)
    (verdicts_and_guesses_text c.args.config.now)
    c.put_verdicts_and_guesses.result c.if-not-put_waits.ensures.bytes c.put_verdicts_and_guesses.ensures.bytes
