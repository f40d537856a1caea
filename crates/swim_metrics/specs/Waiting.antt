-- How long the acks of probes were waited for.
use Rattle.std.specs.Prelude.{ℕ, not, ◌&&◌, Bool, true, false, List, [], ◌∷◌, ◌++◌, count_by, if◌then◌else◌}
use Rattle.std.specs.List.{list_any}
use Rattle.swim_history.specs.declared.calls.Call.{Call}
use Rattle.swim_history.specs.declared.calls.Call.TheVariants.{Hear}
use Rattle.swim_history.specs.declared.replies.Reply.{Reply}
use Rattle.swim_history.specs.declared.replies.Reply.TheVariants.{Heard}
use Rattle.swim_history.specs.declared.entries.Entry.{Entry}
use Rattle.swim_history.specs.Aim.{since}
use Rattle.swim_history.specs.Events.{is_start, is_tick}
use Rattle.swim_events.specs.Watched.{Lived}

-- an ack of the aim came for the period that runs
abbrev pub is_hearing : Call → Reply → Bool
is_hearing (Hear source m) Heard = true
is_hearing call reply = false

abbrev pub hears : Entry → Bool
hears e = is_hearing e.call e.reply

-- one came since the period began
abbrev pub was_heard : List Entry → Bool
was_heard h = list_any hears (since is_start h)

-- how many ticks there were since the one that began the period
abbrev pub waited : List Entry → ℕ
waited h = count_by is_tick (since is_start h)

-- the wait that an entry ends, as the first ack of its probe
abbrev pub wait_ended : Entry → List Entry → List ℕ
wait_ended e before = if hears e && not (was_heard before) then waited before ∷ [] else []

-- the waits of a history, in ticks, the newest first
abbrev pub waits_in : List Entry → List ℕ
waits_in [] = []
waits_in (e ∷ before) = wait_ended e before ++ waits_in before

-- those of all lives
abbrev pub waits : List Lived → List ℕ
waits [] = []
waits (life ∷ older) = waits_in life.past ++ waits older

-- the bounds of the histogram's buckets, in ticks: a period has at most 65535
abbrev pub bounds : List ℕ
bounds =
    1 ∷ 2 ∷ 4 ∷ 8 ∷ 16 ∷ 32 ∷ 64 ∷ 128 ∷ 256 ∷ 512 ∷ 1024 ∷ 2048 ∷ 4096 ∷ 8192 ∷ 16384 ∷ 32768 ∷ []
