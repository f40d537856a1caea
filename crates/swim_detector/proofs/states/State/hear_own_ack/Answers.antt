use Rattle.std.proofs.Common.{refl, ◌∙◌, sym}
use Rattle.std.proofs.lemmas.Bool.{false≢true}
use Rattle.swim_detector.proofs.Hearing.{ack_heard, ack_stray}
use Rattle.swim_detector.proofs.states.State.hear_own_ack.Goals as goal

pub returns-then-awaits : goal.returns-then-awaits
returns-then-awaits c source =
    let awaited = c.awaits.ensures.0 c.if-awaits.true in
    (ack_heard c.args.journal.now.opening c.args.journal.now.past c.args.message.now source c.args.self.now _
    c.requires.mirrors c.requires.kind c.requires.own awaited.0 awaited.1 refl refl refl refl refl)

pub returns-else-awaits : goal.returns-else-awaits
returns-else-awaits c source =
    (ack_stray c.args.journal.now.opening c.args.journal.now.past c.args.message.now source c.args.self.now
    c.requires.mirrors c.requires.kind c.requires.own
    (λ aimed now. false≢true (sym c.if-awaits.false ∙ c.awaits.ensures.1 (aimed, now))))
