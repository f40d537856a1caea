use Rattle.std.proofs.Common.{◌∙◌, box_value}
use Rattle.swim_web.proofs.Looking.{looks_both}
use Rattle.swim_web.proofs.guests.Guest.take_steps.Goals as goal

pub returns-then-not-take_step : goal.returns-then-not-take_step
returns-then-not-take_step g c = (
  looks_both (g.D.Daemon.asked (box_value c.args.web.now.daemon))
      (g.D.Daemon.asked (box_value c.loop-step.web.daemon))
      (g.D.Daemon.asked (box_value c.take_step.new.web.daemon)) c.loop-step.invariant.0 c.take_step.ensures.0,
  c.take_step.ensures.1 ∙ c.loop-step.invariant.1,
  c.take_step.ensures.2 ∙ c.loop-step.invariant.2,
)

pub loop-step-preserved : goal.loop-step-preserved
loop-step-preserved g c = (
  looks_both (g.D.Daemon.asked (box_value c.args.web.now.daemon))
      (g.D.Daemon.asked (box_value c.loop-step.web.daemon))
      (g.D.Daemon.asked (box_value c.take_step.new.web.daemon)) c.loop-step.invariant.0 c.take_step.ensures.0,
  c.take_step.ensures.1 ∙ c.loop-step.invariant.1,
  c.take_step.ensures.2 ∙ c.loop-step.invariant.2,
)
