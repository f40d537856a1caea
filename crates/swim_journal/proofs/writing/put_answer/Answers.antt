use Rattle.std.proofs.Common.{refl, ◌++◌, codes}
use Rattle.swim_history.specs.Texts.{feed}
use Rattle.swim_script.specs.Texts.{placed_text}
use Rattle.swim_journal.specs.Lines.{answer_line}
use Rattle.swim_text.specs.TwoPuts.{first_failed, both_put}
use Rattle.swim_journal.proofs.writing.put_answer.Goals as goal

pub returns-then-not-put-clause-bytes : goal.returns-then-not-put-clause-bytes
returns-then-not-put-clause-bytes g c =
    first_failed (g.W.Sink.written c.args.writer.now) (g.W.Sink.written c.put.new.self) (codes "= ")
    (placed_text c.args.place c.args.reply.now ++ feed) (answer_line c.args.place c.args.reply.now) refl
    c.if-not-put.ensures.bytes

pub returns-clause-bytes : goal.returns-clause-bytes
returns-clause-bytes g c =
    both_put (g.W.Sink.written c.args.writer.now) (g.W.Sink.written c.put.new.self)
    (g.W.Sink.written c.put_placed_line.new.writer) (codes "= ") (placed_text c.args.place c.args.reply.now ++ feed)
    (answer_line c.args.place c.args.reply.now) c.put_placed_line.result refl c.if-not-put.ensures.bytes
    c.put_placed_line.ensures.bytes
