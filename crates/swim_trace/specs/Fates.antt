-- What became of the datagrams of a probe, by entries of several members. Nothing rests on a clock.
use Rattle.std.specs.Prelude.{ℕ, ◌==◌, ◌&&◌, Bool, true, false, List, [], ◌∷◌, ◌++◌, Option, Some, None, length, map}
use Rattle.std.specs.Prelude.{filter, nat_lt}
use Rattle.std.specs.List.{list_any}
use Rattle.swim_wire.specs.declared.messages.Kind.{Kind}
use Rattle.swim_wire.specs.declared.messages.Kind.TheVariants.{Ping, PingReq, Ack}
use Rattle.swim_history.specs.declared.replies.Relay.{Relay}
use Rattle.swim_trace.specs.declared.acts.Act.{Act}
use Rattle.swim_trace.specs.declared.acts.Answer.{Answer}
use Rattle.swim_trace.specs.declared.acts.Answer.TheVariants.{Sent, Counted, Dropped as AsDropped}
use Rattle.swim_trace.specs.declared.acts.Deed.{Deed}
use Rattle.swim_trace.specs.declared.acts.Deed.TheVariants.{Probed, Heard}
use Rattle.swim_trace.specs.declared.acts.ProbeName.{ProbeName}
use Rattle.swim_trace.specs.declared.legs.Leg.{Leg}
use Rattle.swim_trace.specs.declared.fates.Fate.{Fate}
use Rattle.swim_trace.specs.declared.fates.Fate.TheVariants.{Passed, Dropped, Lost, Unsent, Contradicted, Untold}
use Rattle.swim_trace.specs.declared.fates.Way.{Way}
use Rattle.swim_trace.specs.Legs.{leg, cause, relay_legs}

abbrev pub same_kind : Kind → Kind → Bool
same_kind Ping Ping = true
same_kind PingReq PingReq = true
same_kind Ack Ack = true
same_kind kind other = false

abbrev pub same_probe : ProbeName → ProbeName → Bool
same_probe p q = p.initiator == q.initiator && p.target == q.target && p.number == q.number

-- a message came of that kind, by that sender
abbrev pub hears : Kind → ℕ → Deed → Bool
hears kind from Probed = false
hears kind from (Heard hearing) = same_kind hearing.kind kind && hearing.sender == from

-- the entry is that by which the probe's datagram on that way came: it has the same message, and stands in a file of
-- whom it was sent to
abbrev pub is_heard_on : ProbeName → Leg → Act → Bool
is_heard_on p l act = same_probe act.probe p && act.member == l.to && hears l.kind l.from act.deed

abbrev pub is_answered : Answer → Bool
is_answered Sent = true
is_answered Counted = true
is_answered (AsDropped why) = false

-- a message came that was answered or counted
abbrev pub is_passing : Deed → Bool
is_passing Probed = false
is_passing (Heard hearing) = is_answered hearing.answer

abbrev pub is_passed_on : ProbeName → Leg → Act → Bool
is_passed_on p l act = is_heard_on p l act && is_passing act.deed

-- the datagram on that way came
abbrev pub is_heard : ProbeName → List Act → Leg → Bool
is_heard p acts l = nat_lt 0 (length (filter (is_heard_on p l) acts))

-- it came, and was answered or counted
abbrev pub is_passed : ProbeName → List Act → Leg → Bool
is_passed p acts l = nat_lt 0 (length (filter (is_passed_on p l) acts))

-- it was sent: what it answers came and was answered, if it answers any
abbrev pub is_sent_for : ProbeName → List Act → Option Leg → Bool
is_sent_for p acts None = true
is_sent_for p acts (Some c) = is_passed p acts c

abbrev pub is_sent : ProbeName → List Act → Leg → Bool
is_sent p acts l = is_sent_for p acts (cause p l)

-- a file of that member is there
abbrev pub is_told : List ℕ → ℕ → Bool
is_told told m = list_any (λ id. id == m) told

-- what became of a datagram, where it came or not, was answered or not, and was sent or not, and where files of its
-- sender and of whom it was sent to are there or not
abbrev pub fate_by : Bool → Bool → Bool → Bool → Bool → Fate
fate_by true passed false true to = Contradicted
fate_by true true sent from to = Passed
fate_by true false sent from to = Dropped
fate_by false passed true from true = Lost
fate_by false passed true from false = Untold
fate_by false passed false true to = Unsent
fate_by false passed false false to = Untold

abbrev pub fate : ProbeName → List Act → List ℕ → Leg → Fate
fate p acts told l =
    fate_by (is_heard p acts l) (is_passed p acts l) (is_sent p acts l) (is_told told l.from) (is_told told l.to)

abbrev pub way : ProbeName → List Act → List ℕ → Leg → Way
way p acts told l = record { leg = l; fate = fate p acts told l }

-- the same of each datagram that a relay's part of a probe has
abbrev pub relay_ways : ProbeName → List Act → List ℕ → List Relay → List Way
relay_ways p acts told [] = []
relay_ways p acts told (relay ∷ more) =
    map (way p acts told) (relay_legs p relay.id) ++ relay_ways p acts told more

-- the ping, the ack, and for each relay the request, its ping, the ack to it and the one that it sends on
abbrev pub ways : ProbeName → List Relay → List Act → List ℕ → List Way
ways p relays acts told =
    way p acts told (leg Ping p.initiator p.target) ∷ way p acts told (leg Ack p.target p.initiator)
    ∷ relay_ways p acts told relays
