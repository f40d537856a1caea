use Rattle.std.proofs.Common.{◌≡◌, box_value}
use Rattle.swim_web.specs.Asked.{OnlyLooks}
use Rattle.swim_web.specs.Recent.{Notes}
use Rattle.swim_web.proofs.hosts.run.Given as goal

abbrev pub invariant-loop-turn : goal.invariant-loop-turn
invariant-loop-turn g l =
    OnlyLooks (g.D.Daemon.asked (box_value l.initial.web.daemon)) (g.D.Daemon.asked (box_value l.web.daemon))
    × Notes (g.T.Teller.heard l.initial.teller) (g.T.Teller.heard l.teller) l.initial.web.recent l.web.recent
    × (l.web.names ≡ l.initial.web.names)
