use Rattle.std.proofs.Common.{◌≡◌, box_value}
use Rattle.swim_web.specs.Asked.{OnlyLooks}
use Rattle.swim_web.proofs.guests.turns.Given as goal

abbrev pub invariant-loop-guest : goal.invariant-loop-guest
invariant-loop-guest g l =
    OnlyLooks (g.D.Daemon.asked (box_value l.initial.web.daemon)) (g.D.Daemon.asked (box_value l.web.daemon))
    × (l.web.recent ≡ l.initial.web.recent) × (l.web.names ≡ l.initial.web.names)
