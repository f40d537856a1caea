use Rattle.swim_web.specs.Recent.{Notes}
use Rattle.swim_web.proofs.recent.listen.Given as goal

abbrev pub invariant-loop-event : goal.invariant-loop-event
invariant-loop-event g l =
    Notes (g.T.Teller.heard l.initial.teller) (g.T.Teller.heard l.teller) l.initial.recent l.recent
