use Rattle.std.proofs.Common.{false, refl, ◌++◌}
use Rattle.swim_history.specs.Sends.{sends_of}
use Rattle.swim_history.specs.Texts.{feed}
use Rattle.swim_script.specs.Texts.{reply_text, answer_text, sends_text}
use Rattle.swim_text.specs.TwoPuts.{first_failed, both_put}
use Rattle.swim_script.proofs.answers.put_answer.Goals as goal

pub returns-then-not-put_reply-clause-bytes : goal.returns-then-not-put_reply-clause-bytes
returns-then-not-put_reply-clause-bytes g c =
    let lines = sends_text (sends_of c.args.reply.now c.args.opening.now) in
    first_failed (g.W.Sink.written c.args.writer.now) (g.W.Sink.written c.put_reply.new.writer)
    (reply_text c.args.reply.now) (feed ++ lines) (answer_text c.args.opening.now c.args.reply.now) refl
    c.if-not-put_reply.ensures.bytes

pub returns-then-not-put-clause-bytes : goal.returns-then-not-put-clause-bytes
returns-then-not-put-clause-bytes g c =
    let lines = sends_text (sends_of c.args.reply.now c.args.opening.now) in
    both_put (g.W.Sink.written c.args.writer.now) (g.W.Sink.written c.put_reply.new.writer)
    (g.W.Sink.written c.put.new.self) (reply_text c.args.reply.now) (feed ++ lines)
    (answer_text c.args.opening.now c.args.reply.now) false refl c.if-not-put_reply.ensures.bytes
    (first_failed (g.W.Sink.written c.put_reply.new.writer) (g.W.Sink.written c.put.new.self) feed lines (feed ++ lines)
    refl c.if-not-put.ensures.bytes)

pub returns-clause-bytes : goal.returns-clause-bytes
returns-clause-bytes g c =
    let lines = sends_text (sends_of c.args.reply.now c.args.opening.now) in
    both_put (g.W.Sink.written c.args.writer.now) (g.W.Sink.written c.put_reply.new.writer)
    (g.W.Sink.written c.put_messages.new.writer) (reply_text c.args.reply.now) (feed ++ lines)
    (answer_text c.args.opening.now c.args.reply.now) c.put_messages.result refl c.if-not-put_reply.ensures.bytes
    (both_put (g.W.Sink.written c.put_reply.new.writer) (g.W.Sink.written c.put.new.self)
    (g.W.Sink.written c.put_messages.new.writer) feed lines (feed ++ lines) c.put_messages.result refl
    c.if-not-put.ensures.bytes c.put_messages.ensures.bytes)
