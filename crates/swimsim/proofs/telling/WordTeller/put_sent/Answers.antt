use Rattle.std.proofs.Common.{[], refl}
use Rattle.swim_script.specs.Texts.{send_text}
use Rattle.swimsim.specs.Telling.{IsExact, IsSent, MayStand}
use Rattle.swimsim.proofs.Worded.{both_so, first_failed_so, sent_plain, sent_worded}
use Rattle.swimsim.proofs.telling.WordTeller.put_sent.Goals as goal

pub returns-then-not-put_send-clause-bytes : goal.returns-then-not-put_send-clause-bytes
returns-then-not-put_send-clause-bytes g c =
    let has = c.args.self.now.has_datagrams in
    let one = c.args.one.now in
    first_failed_so (IsExact (send_text one)) (IsSent has one) (g.W.Sink.written c.args.writer.now)
    (g.W.Sink.written c.put_send.new.writer) [] (sent_plain has one)
    (send_text one, refl, c.if-not-put_send.ensures.bytes)

pub returns-clause-bytes : goal.returns-clause-bytes
returns-clause-bytes g c =
    let has = c.args.self.now.has_datagrams in
    let one = c.args.one.now in
    both_so (IsExact (send_text one)) (MayStand has one.1) (IsSent has one) (g.W.Sink.written c.args.writer.now)
    (g.W.Sink.written c.put_send.new.writer) (g.W.Sink.written c.put_message.new.writer) c.put_message.result
    (sent_worded has one) (send_text one, refl, c.if-not-put_send.ensures.bytes) c.put_message.ensures.bytes
