use Rattle.std.proofs.Common.{◌∙◌, box_value}
use Rattle.swim_web.proofs.Listening.{notes_both}
use Rattle.swim_web.proofs.Looking.{looks_both}
use Rattle.swim_web.proofs.hosts.run.Goals as goal

pub loop-turn-preserved : goal.loop-turn-preserved
loop-turn-preserved g c = (
  looks_both (g.D.Daemon.asked (box_value c.args.web.now.daemon))
      (g.D.Daemon.asked (box_value c.loop-turn.web.daemon))
      (g.D.Daemon.asked (box_value c.take_turn.new.web.daemon)) c.loop-turn.invariant.0 c.take_turn.ensures.looks,
  notes_both (g.T.Teller.heard c.args.teller.now) (g.T.Teller.heard c.loop-turn.teller)
      (g.T.Teller.heard c.take_turn.new.teller) c.args.web.now.recent c.loop-turn.web.recent
      c.take_turn.new.web.recent c.loop-turn.invariant.1 c.take_turn.ensures.notes,
  c.take_turn.ensures.names ∙ c.loop-turn.invariant.2,
)
