use Rattle.std.proofs.Common.{refl}
use Rattle.swim_journal.specs.Lines.{call_line, answer_line}
use Rattle.swim_journal.specs.Journals.{kept_text}
use Rattle.swim_text.specs.TwoPuts.{first_failed, both_put}
use Rattle.swim_journal.proofs.writing.put_kept.Goals as goal

pub returns-then-not-put_call-clause-bytes : goal.returns-then-not-put_call-clause-bytes
returns-then-not-put_call-clause-bytes g c =
    first_failed (g.W.Sink.written c.args.writer.now) (g.W.Sink.written c.put_call.new.writer)
    (call_line c.args.kept.now.call) (answer_line c.args.kept.now.position c.args.kept.now.reply)
    (kept_text c.args.kept.now) refl c.if-not-put_call.ensures.bytes

pub returns-clause-bytes : goal.returns-clause-bytes
returns-clause-bytes g c =
    both_put (g.W.Sink.written c.args.writer.now) (g.W.Sink.written c.put_call.new.writer)
    (g.W.Sink.written c.put_answer.new.writer) (call_line c.args.kept.now.call)
    (answer_line c.args.kept.now.position c.args.kept.now.reply) (kept_text c.args.kept.now) c.put_answer.result refl
    c.if-not-put_call.ensures.bytes c.put_answer.ensures.bytes
