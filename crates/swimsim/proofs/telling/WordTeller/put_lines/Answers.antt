use Rattle.std.proofs.Common.{◌≡◌, ◌++◌, List, Option, refl, rules, true, false, subst}
use Rattle.swim_wire.specs.Address.{Address}
use Rattle.swim_wire.specs.Messages.{Message}
use Rattle.swim_history.specs.Sends.{sends_of}
use Rattle.swim_history.specs.Texts.{feed}
use Rattle.swim_script.specs.Texts.{reply_text, sends_text}
use Rattle.swimsim.specs.declared.reasons.Reason.{Reason}
use Rattle.swimsim.specs.Reasons.{reason_of}
use Rattle.swimsim.specs.Telling.{AreSent, IsEnd, IsExact, IsReply, PutsSome}
use Rattle.swimsim.proofs.Worded.{IsHead, both_so, first_failed_so, head_ends, plain_sends, reply_ends, reply_plain}
use Rattle.swimsim.proofs.telling.WordTeller.put_lines.Goals as goal

pub returns-then-not-put_reply-clause-bytes : goal.returns-then-not-put_reply-clause-bytes
returns-then-not-put_reply-clause-bytes g c =
    let t = c.args.self.now in
    let o = c.args.opening.now in
    let reply = c.args.reply.now in
    first_failed_so (IsExact (reply_text reply)) (IsReply t.has_datagrams t.has_reasons o reply)
    (g.W.Sink.written c.args.writer.now) (g.W.Sink.written c.put_reply.new.writer)
    (feed ++ sends_text (sends_of reply o)) (reply_plain t.has_datagrams t.has_reasons o reply)
    (reply_text reply, refl, c.if-not-put_reply.ensures.bytes)

pub returns-then-not-end_line-clause-bytes : goal.returns-then-not-end_line-clause-bytes
returns-then-not-end_line-clause-bytes g c =
    let t = c.args.self.now in
    let o = c.args.opening.now in
    let reply = c.args.reply.now in
    let head = both_so (IsExact (reply_text reply)) (IsEnd t.has_reasons (reason_of reply)) (IsHead t.has_reasons reply)
    (g.W.Sink.written c.args.writer.now) (g.W.Sink.written c.put_reply.new.writer)
    (g.W.Sink.written c.end_line.new.writer) false (head_ends t.has_reasons reply)
    (reply_text reply, refl, c.if-not-put_reply.ensures.bytes)
    (subst (λ (r : Option Reason). PutsSome (IsEnd t.has_reasons r) (g.W.Sink.written c.put_reply.new.writer)
    (g.W.Sink.written c.end_line.new.writer) false) c.reason_of.ensures c.if-not-end_line.ensures.bytes) in
    first_failed_so (IsHead t.has_reasons reply) (IsReply t.has_datagrams t.has_reasons o reply)
    (g.W.Sink.written c.args.writer.now) (g.W.Sink.written c.end_line.new.writer) (sends_text (sends_of reply o))
    (λ a is. reply_ends t.has_datagrams t.has_reasons o reply a (sends_text (sends_of reply o)) is
    (plain_sends t.has_datagrams (sends_of reply o))) head

pub returns-clause-bytes : goal.returns-clause-bytes
returns-clause-bytes g c =
    let t = c.args.self.now in
    let o = c.args.opening.now in
    let reply = c.args.reply.now in
    let head = both_so (IsExact (reply_text reply)) (IsEnd t.has_reasons (reason_of reply)) (IsHead t.has_reasons reply)
    (g.W.Sink.written c.args.writer.now) (g.W.Sink.written c.put_reply.new.writer)
    (g.W.Sink.written c.end_line.new.writer) true (head_ends t.has_reasons reply)
    (reply_text reply, refl, c.if-not-put_reply.ensures.bytes)
    (subst (λ (r : Option Reason). PutsSome (IsEnd t.has_reasons r) (g.W.Sink.written c.put_reply.new.writer)
    (g.W.Sink.written c.end_line.new.writer) true) c.reason_of.ensures c.if-not-end_line.ensures.bytes) in
    let all : c.as_slice.result.now ≡ sends_of reply o = search rules in
    both_so (IsHead t.has_reasons reply) (AreSent t.has_datagrams (sends_of reply o))
    (IsReply t.has_datagrams t.has_reasons o reply) (g.W.Sink.written c.args.writer.now)
    (g.W.Sink.written c.end_line.new.writer) (g.W.Sink.written c.put_sends.new.writer) c.put_sends.result
    (reply_ends t.has_datagrams t.has_reasons o reply) head
    (subst (λ (l : List (Address × Message)). PutsSome (AreSent t.has_datagrams l)
    (g.W.Sink.written c.end_line.new.writer) (g.W.Sink.written c.put_sends.new.writer) c.put_sends.result) all
    c.put_sends.ensures.bytes)
