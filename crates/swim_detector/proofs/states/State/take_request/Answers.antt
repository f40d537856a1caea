use Rattle.std.proofs.Common.{refl, ap, ◌∙◌}
use Rattle.swim_wire.specs.Messages.{Message}
use Rattle.swim_detector.proofs.Hearing.{request_taken, request_full}
use Rattle.swim_detector.proofs.states.State.take_request.Goals as goal

pub returns-in-Ok : goal.returns-in-Ok
returns-in-Ok c =
    let a = c.args in
    let me = c.me-me.ensures ∙ ap (λ x. x.me) c.opening.ensures.value in
    let asked = rw (c.key.ensures, ap (λ (m : Message). m.version) c.message.view_is) at c.in-Ok.ensures.ok in
    rw (c.ping_by.ensures, me)
    (request_taken a.journal.now.opening a.journal.now.past a.message.now a.source a.peer a.self.now
    (record a.self.now { requests = c.ask.new.self })
    c.opening.ensures.limits c.requires.mirrors c.requires.kind c.requires.own c.requires.other c.requires.target refl
    refl refl refl asked c.in-Ok.ensures.kept.bound)

pub returns-in-Err : goal.returns-in-Err
returns-in-Err c =
    let a = c.args in
    let full = rw c.key.ensures at (c.in-Err.ensures.full.0 refl) in
    rw c.in-Err.ensures.err
    (request_full a.journal.now.opening a.journal.now.past a.message.now a.source a.peer a.self.now
    c.requires.mirrors c.requires.kind c.requires.own c.requires.other c.requires.target full.0 full.1)
