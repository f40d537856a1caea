use Rattle.std.proofs.Common.{◌≡◌, ◌∷◌, take}
use Rattle.swim_wire.specs.declared.messages.Kind.TheVariants.{Ping, Ack}
use Rattle.swim_trace.specs.Legs.{leg}
use Rattle.swim_trace.specs.Fates.{way, relay_ways}
use Rattle.swim_trace.proofs.fates.ways_of.Given as goal

-- the ways of the relays so far stand last
abbrev pub invariant-loop-relay : goal.invariant-loop-relay
invariant-loop-relay l =
    let p = l.case.probe in
    let one = way p l.case.acts.now l.case.told.now in
    l.found.items ≡ one (leg Ping p.initiator p.target) ∷ one (leg Ack p.target p.initiator)
    ∷ relay_ways p l.case.acts.now l.case.told.now (take l.relay-index l.case.relays.now)
