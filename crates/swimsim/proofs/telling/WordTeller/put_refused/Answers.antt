use Rattle.std.proofs.Common.{refl}
use Rattle.swim_script.specs.Outcomes.{outcome_text}
use Rattle.swimsim.specs.Telling.{IsAnswer, IsExact, MayHear}
use Rattle.swimsim.proofs.Worded.{answer_ends, both_so, first_failed_so}
use Rattle.swimsim.proofs.telling.WordTeller.put_refused.Goals as goal

pub returns-then-not-put_heard-clause-bytes : goal.returns-then-not-put_heard-clause-bytes
returns-then-not-put_heard-clause-bytes g c =
    let has = c.args.self.now.has_datagrams in
    let call = c.args.call.now in
    let text = outcome_text c.args.session.now.recorded c.args.outcome.now in
    first_failed_so (MayHear has call) (IsAnswer has call (IsExact text)) (g.W.Sink.written c.args.writer.now)
    (g.W.Sink.written c.put_heard.new.writer) text (λ a heard. answer_ends has call (IsExact text) a text heard refl)
    c.if-not-put_heard.ensures.bytes

pub returns-clause-bytes : goal.returns-clause-bytes
returns-clause-bytes g c =
    let has = c.args.self.now.has_datagrams in
    let call = c.args.call.now in
    let text = outcome_text c.args.session.now.recorded c.args.outcome.now in
    both_so (MayHear has call) (IsExact text) (IsAnswer has call (IsExact text)) (g.W.Sink.written c.args.writer.now)
    (g.W.Sink.written c.put_heard.new.writer) (g.W.Sink.written c.put.new.writer) c.put.result
    (answer_ends has call (IsExact text)) c.if-not-put_heard.ensures.bytes (text, refl, c.put.ensures.bytes)
