use Rattle.std.proofs.Common.{◌∙◌, box_value}
use Rattle.swim_web.proofs.Looking.{looks_both}
use Rattle.swim_web.proofs.guests.turns.Goals as goal

pub loop-guest-preserved : goal.loop-guest-preserved
loop-guest-preserved g c = (
  looks_both (g.D.Daemon.asked (box_value c.args.web.now.daemon))
      (g.D.Daemon.asked (box_value c.loop-guest.web.daemon))
      (g.D.Daemon.asked (box_value c.turn.new.web.daemon)) c.loop-guest.invariant.0 c.turn.ensures.0,
  c.turn.ensures.1 ∙ c.loop-guest.invariant.1,
  c.turn.ensures.2 ∙ c.loop-guest.invariant.2,
)
