use Rattle.swim_text.specs.Streams.{puts_less, puts_then}
use Rattle.swim_config.specs.Warnings.{guesses_text, verdicts_text}
use Rattle.swim_config.proofs.warnings.put_verdicts_and_guesses.Goals as goal

pub returns-then-not-put_verdicts-clause-bytes : goal.returns-then-not-put_verdicts-clause-bytes
returns-then-not-put_verdicts-clause-bytes g c =
    puts_less (g.W.Sink.written c.args.writer.now) (g.W.Sink.written c.put_verdicts.new.writer)
    (verdicts_text c.args.config.now)
    (guesses_text c.args.config.now)
    c.if-not-put_verdicts.ensures.bytes

pub returns-clause-bytes : goal.returns-clause-bytes
returns-clause-bytes g c =
    puts_then (g.W.Sink.written c.args.writer.now) (g.W.Sink.written c.put_verdicts.new.writer)
    (g.W.Sink.written c.put_guesses.new.writer)
    (verdicts_text c.args.config.now)
    (guesses_text c.args.config.now)
    c.put_guesses.result c.if-not-put_verdicts.ensures.bytes c.put_guesses.ensures.bytes
