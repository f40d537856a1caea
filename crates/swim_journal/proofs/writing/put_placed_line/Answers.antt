use Rattle.std.proofs.Common.{refl, ◌++◌}
use Rattle.swim_history.specs.Texts.{feed}
use Rattle.swim_script.specs.Texts.{placed_text}
use Rattle.swim_text.specs.TwoPuts.{first_failed, both_put}
use Rattle.swim_journal.proofs.writing.put_placed_line.Goals as goal

pub returns-then-not-put_placed-clause-bytes : goal.returns-then-not-put_placed-clause-bytes
returns-then-not-put_placed-clause-bytes g c =
    first_failed (g.W.Sink.written c.args.writer.now) (g.W.Sink.written c.put_placed.new.writer)
    (placed_text c.args.place c.args.reply.now) feed (placed_text c.args.place c.args.reply.now ++ feed) refl
    c.if-not-put_placed.ensures.bytes

pub returns-clause-bytes : goal.returns-clause-bytes
returns-clause-bytes g c =
    both_put (g.W.Sink.written c.args.writer.now) (g.W.Sink.written c.put_placed.new.writer)
    (g.W.Sink.written c.put.new.self) (placed_text c.args.place c.args.reply.now) feed
    (placed_text c.args.place c.args.reply.now ++ feed) c.put.result refl c.if-not-put_placed.ensures.bytes
    c.put.ensures.bytes
