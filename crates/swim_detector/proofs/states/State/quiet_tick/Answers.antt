use Rattle.std.proofs.Common.{◌∙◌, ap}
use Rattle.swim_detector.proofs.Settling.{quiet}
use Rattle.swim_detector.proofs.states.State.quiet_tick.Goals as goal

pub returns : goal.returns
returns c =
    let o = c.args.journal.now.opening in
    let period = c.period.ensures.value ∙ ap (λ x. x.period) c.opening.ensures.value in
    (quiet o c.args.journal.now.past c.args.self.now c.pass.new.self c.opening.ensures.limits c.requires.mirrors
    (record {
      targets = c.pass.ensures.same.0;
      aim = c.pass.ensures.same.1;
      heard = c.pass.ensures.same.2;
      requests = c.pass.ensures.requests;
      phase = rw period at c.pass.ensures.phase;
    })
    c.requires.inside c.requires.quiet)
