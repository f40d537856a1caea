-- Worked rows: the definitions, evaluated on two small lives of which each count was worked out by hand.
use Rattle.std.specs.Prelude.{◌≡◌, ℕ, List, [], ◌∷◌, ◌++◌, count_by, drop, Some, None, codes, refl}
use Rattle.std.specs.Fmt.{digits}
use Rattle.swim_wire.specs.Address.{Address}
use Rattle.swim_wire.specs.Messages.{Message}
use Rattle.swim_wire.specs.declared.messages.Kind.{Kind}
use Rattle.swim_wire.specs.declared.messages.Kind.TheVariants.{Ping, PingReq, Ack}
use Rattle.swim_wire.specs.declared.messages.Version.TheVariants as version
use Rattle.swim_history.specs.declared.calls.Call.{Call}
use Rattle.swim_history.specs.declared.calls.Call.TheVariants.{Tick, Hear, Join, Remove}
use Rattle.swim_history.specs.declared.replies.Probe.{Probe}
use Rattle.swim_history.specs.declared.replies.Reply.{Reply}
use Rattle.swim_history.specs.declared.replies.Reply.TheVariants.{Quiet, Started, Heard, Send, Dropped, Joined, Removed}
use Rattle.swim_history.specs.declared.replies.DropReason.TheVariants.{Stray, NoRequest}
use Rattle.swim_history.specs.declared.entries.Choice.TheVariants.{Nothing}
use Rattle.swim_history.specs.declared.entries.Entry.{Entry}
use Rattle.swim_history.specs.Events.{is_tick, joins}
use Rattle.swim_history.specs.Setting.{Setting}
use Rattle.swim_events.specs.Watched.{Lived}
use Rattle.swim_metrics.specs.Counting.{entries, sent, sends_ping, pinged, heard_directly, heard_by_relay, serves}
use Rattle.swim_metrics.specs.Counting.{dropped_as, judges, leaves}
use Rattle.swim_metrics.specs.Waiting.{waits}
use Rattle.swim_metrics.specs.Families.{escaped, seconds}
use Rattle.swim_metrics.specs.LastHeard.{last_heard}

address : ℕ → Address
address last = record { ip = 10 ∷ 0 ∷ 0 ∷ last ∷ []; port = 7000 }

-- member 1, which knows nobody yet; a period lasts 3 ticks
opening : Setting
opening = record { me = 1; k = 1; rtt = 1; period = 3; rows = []; last = 0; version = version.One }

-- an ack of member 2, a ping or a request, for period number
message : Kind → ℕ → ℕ → ℕ → ℕ → Message
message kind sender initiator target number = record {
  version = version.One;
  kind = kind;
  sender = sender;
  initiator = initiator;
  target = target;
  number = number;
  at = None;
}

probe_of : ℕ → Probe
probe_of number = record { target = 2; peer = address 2; number = number }

entry : Call → Reply → Entry
entry call reply = record { seat = 0; number = 0; call = call; choice = Nothing; reply = reply }

-- the first life, the newest entry first: member 2 is probed and answers, once itself and once by member 3; then it is
-- probed, answers nothing, is judged, answers too late, and is removed
first_life : List Entry
first_life =
    entry (Remove 2) Removed
    ∷ entry (Hear (address 2) (message Ack 2 1 2 2)) (Dropped Stray)
    ∷ entry Tick (Started (Some 2) None)
    ∷ entry Tick Quiet
    ∷ entry Tick Quiet
    ∷ entry Tick (Started None (Some (probe_of 2)))
    ∷ entry (Hear (address 3) (message Ack 3 1 2 1)) Heard
    ∷ entry Tick Quiet
    ∷ entry (Hear (address 2) (message Ack 2 1 2 1)) Heard
    ∷ entry Tick Quiet
    ∷ entry Tick (Started None (Some (probe_of 1)))
    ∷ entry (Join 2 (address 2)) (Joined 0)
    ∷ []

-- the second: member 3 pings, and asks for member 4, whom this member pings for it; member 2 joins and is probed, and
-- only its ack by member 3 comes, two ticks later
second_life : List Entry
second_life =
    entry (Hear (address 3) (message Ack 3 1 2 4)) Heard
    ∷ entry Tick Quiet
    ∷ entry Tick Quiet
    ∷ entry Tick (Started None (Some (probe_of 4)))
    ∷ entry (Join 2 (address 2)) (Joined 0)
    ∷ entry (Hear (address 3) (message PingReq 3 3 4 9)) (Send (address 4) (message Ping 1 3 4 9))
    ∷ entry (Hear (address 3) (message Ping 3 3 1 9)) (Send (address 3) (message Ack 1 3 1 9))
    ∷ []

node : List Lived
node =
    record { number = 1; opening = opening; past = second_life }
    ∷ record { number = 0; opening = opening; past = first_life }
    ∷ []

counts_ticks : count_by is_tick (entries node) ≡ 10
unfolding node first_life second_life entry
counts_ticks = refl

-- of probes three, and one for member 3
counts_pings : count_by sends_ping (sent node) ≡ 4
unfolding node first_life second_life entry opening probe_of message
counts_pings = refl

hears_pings : count_by pinged (entries node) ≡ 1
unfolding node first_life second_life entry message
hears_pings = refl

-- one ack of member 2 itself, and two by member 3
counts_acks : (count_by heard_directly (entries node) ≡ 1) × (count_by heard_by_relay (entries node) ≡ 2)
unfolding node first_life second_life entry message
counts_acks = (refl, refl)

serves_once : count_by serves (entries node) ≡ 1
unfolding node first_life second_life entry message
serves_once = refl

drops_by_reason : (count_by (dropped_as Stray) (entries node) ≡ 1)
    × (count_by (dropped_as NoRequest) (entries node) ≡ 0)
unfolding node first_life second_life entry message
drops_by_reason = (refl, refl)

counts_verdicts : count_by judges (entries node) ≡ 1
unfolding node first_life second_life entry
counts_verdicts = refl

counts_members : (count_by joins (entries node) ≡ 2) × (count_by leaves (entries node) ≡ 1)
unfolding node first_life second_life entry
counts_members = (refl, refl)

-- the second ack of a probe ends no wait, and one that comes too late neither
waits_for_acks : waits node ≡ 2 ∷ 1 ∷ []
unfolding node first_life second_life entry message
waits_for_acks = refl

-- member 2 was last heard in period 1 until it was removed, and in the second life, which goes on with the numbers of
-- the
-- first, in period 4. Member 3, which sent acks for it, was never heard itself
first_entries : List Entry
first_entries = drop 1 first_life

hears_member : (last_heard opening first_entries 2 ≡ Some 1) × (last_heard opening first_entries 3 ≡ None)
unfolding first_entries first_life entry opening message probe_of
hears_member = (refl, refl)

forgets_who_is_removed : last_heard opening first_life 2 ≡ None
unfolding first_life entry opening message probe_of
forgets_who_is_removed = refl

hears_again : last_heard (record opening { last = 3 }) second_life 2 ≡ Some 4
unfolding second_life entry opening message probe_of
hears_again = refl

-- 600 milliseconds, 7 milliseconds and a minute
tells_seconds : seconds 600 ++ (codes " " ++ (seconds 7 ++ (codes " " ++ seconds 60000))) ≡ codes "0.600 0.007 60.000"
unfolding digits
tells_seconds = refl

escapes_quotes : escaped (codes "a\"b\\c\n") ≡ codes "a\\\"b\\\\c\\n"
escapes_quotes = refl
