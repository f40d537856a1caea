use Rattle.std.proofs.Common.{◌++◌, codes, decimal}
use Rattle.std.proofs.lemmas.List.{append_assoc}
use Rattle.swim_script.specs.Texts.{placed_text, reply_text}
use Rattle.swim_text.specs.TwoPuts.{first_failed, both_put}
use Rattle.swim_script.proofs.answers.put_placed.Goals as goal

pub returns-then-not-put_pieces-clause-bytes : goal.returns-then-not-put_pieces-clause-bytes
returns-then-not-put_pieces-clause-bytes g c =
    first_failed (g.W.Sink.written c.args.writer.now) (g.W.Sink.written c.put_pieces.new.writer)
    (decimal c.args.place ++ codes " ") (reply_text c.args.reply.now) (placed_text c.args.place c.args.reply.now)
    (append_assoc (decimal c.args.place) (codes " ") (reply_text c.args.reply.now))
    (rw c.from.ensures at c.if-not-put_pieces.ensures.bytes)

pub returns-clause-bytes : goal.returns-clause-bytes
returns-clause-bytes g c =
    both_put (g.W.Sink.written c.args.writer.now) (g.W.Sink.written c.put_pieces.new.writer)
    (g.W.Sink.written c.put_reply.new.writer) (decimal c.args.place ++ codes " ") (reply_text c.args.reply.now)
    (placed_text c.args.place c.args.reply.now) c.put_reply.result
    (append_assoc (decimal c.args.place) (codes " ") (reply_text c.args.reply.now))
    (rw c.from.ensures at c.if-not-put_pieces.ensures.bytes) c.put_reply.ensures.bytes
