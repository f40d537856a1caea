use Rattle.swimsim.specs.Telling.{IsAnswer, IsNewest, MayHear}
use Rattle.swimsim.proofs.Worded.{answer_ends, both_so, first_failed_so, newest_plain}
use Rattle.swimsim.proofs.telling.WordTeller.put_made.Goals as goal

pub returns-then-not-put_heard-clause-bytes : goal.returns-then-not-put_heard-clause-bytes
returns-then-not-put_heard-clause-bytes g c =
    let t = c.args.self.now in
    let call = c.args.call.now in
    let recorded = c.args.session.now.recorded in
    let plain = newest_plain t.has_datagrams t.has_reasons recorded in
    first_failed_so (MayHear t.has_datagrams call)
    (IsAnswer t.has_datagrams call (IsNewest t.has_datagrams t.has_reasons recorded))
    (g.W.Sink.written c.args.writer.now) (g.W.Sink.written c.put_heard.new.writer) plain.0
    (λ a heard. answer_ends t.has_datagrams call (IsNewest t.has_datagrams t.has_reasons recorded) a plain.0 heard
    plain.1) c.if-not-put_heard.ensures.bytes

pub returns-clause-bytes : goal.returns-clause-bytes
returns-clause-bytes g c =
    let t = c.args.self.now in
    let call = c.args.call.now in
    let recorded = c.args.session.now.recorded in
    both_so (MayHear t.has_datagrams call) (IsNewest t.has_datagrams t.has_reasons recorded)
    (IsAnswer t.has_datagrams call (IsNewest t.has_datagrams t.has_reasons recorded))
    (g.W.Sink.written c.args.writer.now) (g.W.Sink.written c.put_heard.new.writer)
    (g.W.Sink.written c.put_answer.new.writer) c.put_answer.result
    (answer_ends t.has_datagrams call (IsNewest t.has_datagrams t.has_reasons recorded))
    c.if-not-put_heard.ensures.bytes c.put_answer.ensures.bytes
