use Rattle.std.proofs.Common.{◌≡◌, box_value}
use Rattle.swim_web.specs.Asked.{OnlyLooks}
use Rattle.swim_web.proofs.guests.Guest.take_steps.Given as goal

abbrev pub invariant-loop-step : goal.invariant-loop-step
invariant-loop-step g l =
    OnlyLooks (g.D.Daemon.asked (box_value l.initial.web.daemon)) (g.D.Daemon.asked (box_value l.web.daemon))
    × (l.web.recent ≡ l.initial.web.recent) × (l.web.names ≡ l.initial.web.names)
