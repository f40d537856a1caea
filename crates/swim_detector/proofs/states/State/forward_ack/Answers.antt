use Rattle.std.proofs.Common.{refl, ap, ◌∙◌}
use Rattle.swim_detector.proofs.Hearing.{ack_forwarded, ack_unasked}
use Rattle.swim_detector.proofs.states.State.forward_ack.Goals as goal

pub returns-in-Some : goal.returns-in-Some
returns-in-Some c source =
    let a = c.args in
    let me = c.me-me.ensures ∙ ap (λ x. x.me) c.opening.ensures.value in
    rw (c.ack_by.ensures, me)
    (ack_forwarded a.journal.now.opening a.journal.now.past a.message.now source c.in-Some.asker a.self.now
    (record a.self.now { requests = c.answer.new.self })
    c.requires.mirrors c.requires.kind c.requires.other (rw c.key.ensures at c.in-Some.ensures.asker) refl refl refl
    refl (rw c.key.ensures at c.in-Some.ensures.waiting))

pub returns-in-None : goal.returns-in-None
returns-in-None c source =
    let a = c.args in
    (ack_unasked a.journal.now.opening a.journal.now.past a.message.now source a.self.now
    (record a.self.now { requests = c.answer.new.self })
    c.requires.mirrors c.requires.kind c.requires.other (rw c.key.ensures at c.in-None.ensures.asker) refl refl refl
    refl (rw c.key.ensures at c.in-None.ensures.waiting))
