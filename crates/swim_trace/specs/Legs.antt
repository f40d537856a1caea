-- The ways that the datagrams of a probe go (section 3.1 of the SWIM paper).
use Rattle.std.specs.Prelude.{ℕ, ◌==◌, List, [], ◌∷◌, Option, Some, None, if◌then◌else◌}
use Rattle.swim_wire.specs.declared.messages.Kind.{Kind}
use Rattle.swim_wire.specs.declared.messages.Kind.TheVariants.{Ping, PingReq, Ack}
use Rattle.swim_trace.specs.declared.acts.ProbeName.{ProbeName}
use Rattle.swim_trace.specs.declared.legs.Leg.{Leg}

abbrev pub leg : Kind → ℕ → ℕ → Leg
leg kind from to = record { kind = kind; from = from; to = to }

-- a ping that isn't the initiator's is a relay's, who was asked for it; an ack of the target answers a ping of whom it
-- goes to, and another one the target's
abbrev pub cause_of : ProbeName → Kind → ℕ → ℕ → Option Leg
cause_of p Ping from to = if from == p.initiator then None else Some (leg PingReq p.initiator from)
cause_of p PingReq from to = None
cause_of p Ack from to = Some (if from == p.target then leg Ping to p.target else leg Ack p.target from)

-- the way of the datagram that has to come before one on this way is sent, which answers it; none where the initiator
-- sends it by itself
abbrev pub cause : ProbeName → Leg → Option Leg
cause p l = cause_of p l.kind l.from l.to

-- the ways of what a relay is asked for
abbrev pub relay_legs : ProbeName → ℕ → List Leg
relay_legs p relay =
    leg PingReq p.initiator relay ∷ leg Ping relay p.target ∷ leg Ack p.target relay ∷ leg Ack relay p.initiator ∷ []
