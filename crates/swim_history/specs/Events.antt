-- Tests on one entry. Each goes by cases on the call and the reply, so that it computes where those are known.
use Rattle.std.specs.Prelude.{ℕ, Bool, true, false, ◌&&◌, ◌==◌, Option, None}
use Rattle.swim_wire.specs.declared.messages.Kind.{Kind}
use Rattle.swim_wire.specs.declared.messages.Kind.TheVariants.{Ping, PingReq, Ack}
use Rattle.swim_history.specs.declared.calls.Call.{Call}
use Rattle.swim_history.specs.declared.calls.Call.TheVariants.{Tick, Hear, Join, Remove}
use Rattle.swim_history.specs.declared.replies.Reply.{Reply}
use Rattle.swim_history.specs.declared.replies.Reply.TheVariants.{Started, Joined, Removed, Refused}
use Rattle.swim_history.specs.declared.replies.Probe.{Probe}
use Rattle.swim_history.specs.declared.entries.Entry.{Entry}

-- an accepted tick
abbrev pub is_ticking : Call → Reply → Bool
is_ticking Tick (Refused why) = false
is_ticking Tick reply = true
is_ticking call reply = false

abbrev pub is_tick : Entry → Bool
is_tick e = is_ticking e.call e.reply

-- a start: a period begins
abbrev pub is_starting : Reply → Bool
is_starting (Started judged probe) = true
is_starting reply = false

abbrev pub is_start : Entry → Bool
is_start e = is_starting e.reply

-- the probe of a start
abbrev pub probe_in : Reply → Option Probe
probe_in (Started judged probe) = probe
probe_in reply = None

-- the member that a start judges failed
abbrev pub judged_in : Reply → Option ℕ
judged_in (Started judged probe) = judged
judged_in reply = None

-- an accepted removal of that member
abbrev pub is_removing : ℕ → Call → Reply → Bool
is_removing m (Remove id) Removed = id == m
is_removing m call reply = false

abbrev pub removes : ℕ → Entry → Bool
removes m e = is_removing m e.call e.reply

-- an accepted join of any member
abbrev pub is_joining : Call → Reply → Bool
is_joining (Join id peer) (Joined place) = true
is_joining call reply = false

abbrev pub joins : Entry → Bool
joins e = is_joining e.call e.reply

abbrev pub is_ack : Kind → Bool
is_ack Ping = false
is_ack PingReq = false
is_ack Ack = true

-- an ack came of the target, of the initiator's period with that number
abbrev pub is_acking : ℕ → ℕ → ℕ → Call → Bool
is_acking initiator target number (Hear source m) =
    is_ack m.kind && m.initiator == initiator && m.target == target && m.number == number
is_acking initiator target number call = false

abbrev pub acks : ℕ → ℕ → ℕ → Entry → Bool
acks initiator target number e = is_acking initiator target number e.call
