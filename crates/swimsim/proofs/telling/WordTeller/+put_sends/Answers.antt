use Rattle.std.proofs.Common.{◌≡◌, List, ◌∷◌, ◌++◌, refl, sym, subst}
use Rattle.swim_text.specs.TwoPuts.{first_and_others, others_of}
use Rattle.swim_script.specs.Texts.{sends_text}
use Rattle.swim_wire.specs.Address.{Address}
use Rattle.swim_wire.specs.Messages.{Message}
use Rattle.swimsim.specs.Telling.{AreSent, IsSent}
use Rattle.swimsim.proofs.Worded.{both_so, first_failed_so, plain_sends}
use Rattle.swimsim.proofs.telling.WordTeller.+put_sends.Goals as goal

pub returns-then-not-put_sent-clause-bytes : goal.returns-then-not-put_sent-clause-bytes
returns-then-not-put_sent-clause-bytes g t c =
    let has = c.args.self.now.has_datagrams in
    let sent = c.args.sent.now in
    let first = c.first-item.result in
    let others = others_of sent in
    let all : sent ≡ first ∷ others = first_and_others sent first c.in-len1-up.len_at_least c.first-item.is in
    first_failed_so (IsSent has first) (AreSent has sent) (g.W.Sink.written c.args.writer.now)
    (g.W.Sink.written c.put_sent.new.writer) (sends_text others)
    (λ a is. subst (λ (l : List (Address × Message)). AreSent has l (a ++ sends_text others)) (sym all)
    (a, sends_text others, is, plain_sends has others, refl)) c.if-not-put_sent.ensures.bytes

pub returns-clause-bytes : goal.returns-clause-bytes
returns-clause-bytes g t c =
    let has = c.args.self.now.has_datagrams in
    let sent = c.args.sent.now in
    let first = c.first-item.result in
    let others = others_of sent in
    let all : sent ≡ first ∷ others = first_and_others sent first c.in-len1-up.len_at_least c.first-item.is in
    both_so (IsSent has first) (AreSent has others) (AreSent has sent) (g.W.Sink.written c.args.writer.now)
    (g.W.Sink.written c.put_sent.new.writer) (g.W.Sink.written c.put_sends.new.writer) c.put_sends.result
    (λ a b one rest. subst (λ (l : List (Address × Message)). AreSent has l (a ++ b)) (sym all)
    (a, b, one, rest, refl)) c.if-not-put_sent.ensures.bytes c.put_sends.ensures.bytes
