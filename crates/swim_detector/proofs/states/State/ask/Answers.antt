use Rattle.std.proofs.Common.{ap, ◌∙◌}
use Rattle.swim_detector.proofs.Asking.{aim_is_listed, asked}
use Rattle.swim_detector.proofs.states.State.ask.Goals as goal

pub address_of-requires : goal.address_of-requires
address_of-requires g c =
    aim_is_listed c.args.journal.now.opening c.args.journal.now.past c.args.target c.opening.ensures.limits
    c.opening.ensures.run c.requires.unheard

pub returns : goal.returns
returns g c =
    let period = c.period.ensures.value ∙ ap (λ x. x.period) c.opening.ensures.value in
    (asked g.C.Chooser.orders g.C.Chooser.places c.args.journal.now.opening c.args.journal.now.past c.args.target
    c.address_of.result c.last_number.result c.relays_for.result c.args.self.now c.pass.new.self c.args.chooser.now
    c.relays_for.new.chooser
    c.opening.ensures.limits c.requires.mirrors
    (record {
      targets = c.pass.ensures.same.0;
      aim = c.pass.ensures.same.1;
      heard = c.pass.ensures.same.2;
      requests = c.pass.ensures.requests;
      phase = rw period at c.pass.ensures.phase;
    })
    c.requires.timeout c.requires.unheard c.last_number.ensures.value c.relays_for.ensures.relays c.address_of.ensures
    c.relays_for.ensures.drawn)
