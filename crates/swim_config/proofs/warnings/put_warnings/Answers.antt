use Rattle.swim_text.specs.Streams.{puts_less, puts_then}
use Rattle.swim_config.specs.Warnings.{floods_and_more_text, short_journal_text, three_rounds}
use Rattle.swim_config.proofs.warnings.put_warnings.Goals as goal

pub returns-then-not-put_journal-clause-bytes : goal.returns-then-not-put_journal-clause-bytes
returns-then-not-put_journal-clause-bytes g c =
    puts_less (g.W.Sink.written c.args.writer.now) (g.W.Sink.written c.put_journal.new.writer)
    (short_journal_text c.args.config.now.journal (three_rounds c.args.config.now.opening))
    (floods_and_more_text c.args.config.now) c.if-not-put_journal.ensures.bytes

pub returns-clause-bytes : goal.returns-clause-bytes
returns-clause-bytes g c =
    puts_then (g.W.Sink.written c.args.writer.now) (g.W.Sink.written c.put_journal.new.writer)
    (g.W.Sink.written c.put_floods_and_more.new.writer)
    (short_journal_text c.args.config.now.journal (three_rounds c.args.config.now.opening))
    (floods_and_more_text c.args.config.now) c.put_floods_and_more.result c.if-not-put_journal.ensures.bytes
    c.put_floods_and_more.ensures.bytes
