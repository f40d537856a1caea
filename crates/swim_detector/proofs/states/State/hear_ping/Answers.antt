use Rattle.std.proofs.Common.{◌≢◌, sym, ap, ◌∙◌}
use Rattle.std.proofs.lemmas.Bool.{eqb-true, eqb-false}
use Rattle.swim_wire.specs.Messages.{Message}
use Rattle.swim_detector.proofs.Hearing.{ping_dropped, ping_answered}
use Rattle.swim_detector.proofs.states.State.hear_ping.Goals as goal

pub returns-then-eq : goal.returns-then-eq
returns-then-eq c =
    let me = c.me-me.ensures ∙ ap (λ x. x.me) c.opening.ensures.value in
    let own = sym (ap (λ (m : Message). m.target) c.message.view_is) ∙
    eqb-true c.message.inside.target c.me-me.result (sym c.eq.ensures ∙ c.if-eq.true) ∙ me in
    rw (c.ack_by.ensures, me, ap (λ (m : Message). m.version) c.message.view_is)
    (ping_answered c.args.journal.now.opening c.args.journal.now.past c.args.message.now c.args.source
    c.args.self.now c.requires.mirrors c.requires.kind own)

pub returns-else-eq : goal.returns-else-eq
returns-else-eq c =
    let me = c.me-me.ensures ∙ ap (λ x. x.me) c.opening.ensures.value in
    let other : c.args.message.now.target ≢ c.args.journal.now.opening.me =
    λ same. eqb-false c.message.inside.target c.me-me.result (sym c.eq.ensures ∙ c.if-eq.false)
    (ap (λ (m : Message). m.target) c.message.view_is ∙ same ∙ sym me) in
    (ping_dropped c.args.journal.now.opening c.args.journal.now.past c.args.message.now c.args.source c.args.self.now
    c.requires.mirrors c.requires.kind other)
