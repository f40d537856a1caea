-- What is counted of a node's journals, over all its lives, the newest first.
use Rattle.std.specs.Prelude.{ℕ, ◌==◌, ◌^◌, ◌+◌, ◌-◌, min, not, nat_lt, Bool, true, false, List, [], ◌∷◌, ◌++◌}
use Rattle.std.specs.Prelude.{count_by, Option, Some, None, if◌then◌else◌}
use Rattle.swim_wire.specs.Address.{Address}
use Rattle.swim_wire.specs.Messages.{Message}
use Rattle.swim_wire.specs.declared.messages.Kind.{Kind}
use Rattle.swim_wire.specs.declared.messages.Kind.TheVariants.{Ping, PingReq, Ack}
use Rattle.swim_history.specs.declared.calls.Call.{Call}
use Rattle.swim_history.specs.declared.calls.Call.TheVariants.{Hear, Remove}
use Rattle.swim_history.specs.declared.replies.Reply.{Reply}
use Rattle.swim_history.specs.declared.replies.Reply.TheVariants.{Heard, Dropped, Removed}
use Rattle.swim_history.specs.declared.replies.DropReason.{DropReason}
use Rattle.swim_history.specs.declared.replies.DropReason.TheVariants.{Stray}
use Rattle.swim_history.specs.declared.entries.Entry.{Entry}
use Rattle.swim_history.specs.declared.rows.Row.{Row}
use Rattle.swim_history.specs.Setting.{Setting, is_state_up}
use Rattle.swim_history.specs.Events.{judged_in}
use Rattle.swim_history.specs.Reasons.{drop_number}
use Rattle.swim_history.specs.Sends.{sends_of}
use Rattle.swim_history.specs.Waiting.{asked_in}
use Rattle.swim_events.specs.Watched.{Lived}
use Rattle.swim_events.specs.Watching.{number_then}

-- a count stops at 2^64-1
abbrev pub capped : ℕ → ℕ
capped n = min n (2 ^ 64 - 1)

-- ---- entries and messages

-- the entries of all lives
abbrev pub entries : List Lived → List Entry
entries [] = []
entries (life ∷ older) = life.past ++ entries older

-- those of the newest life
abbrev pub this_life : List Lived → List Entry
this_life [] = []
this_life (life ∷ older) = life.past

-- the messages that the entries of a history send, each with its address
abbrev pub sent_in : Setting → List Entry → List (Address × Message)
sent_in o [] = []
sent_in o (e ∷ before) = sends_of e.reply o ++ sent_in o before

-- those of all lives
abbrev pub sent : List Lived → List (Address × Message)
sent [] = []
sent (life ∷ older) = sent_in life.opening life.past ++ sent older

-- ---- tests on a message and on an entry

abbrev pub is_ping : Kind → Bool
is_ping Ping = true
is_ping PingReq = false
is_ping Ack = false

abbrev pub is_ask : Kind → Bool
is_ask Ping = false
is_ask PingReq = true
is_ask Ack = false

abbrev pub sends_ping : Address × Message → Bool
sends_ping s = is_ping s.1.kind

abbrev pub sends_ask : Address × Message → Bool
sends_ask s = is_ask s.1.kind

-- a ping came, whatever was answered
abbrev pub is_pinged : Call → Bool
is_pinged (Hear source m) = is_ping m.kind
is_pinged call = false

-- an ack of the aim came for the period that runs: from the aim itself, or from a relay
abbrev pub is_heard_directly : Call → Reply → Bool
is_heard_directly (Hear source m) Heard = m.sender == m.target
is_heard_directly call reply = false

abbrev pub is_heard_by_relay : Call → Reply → Bool
is_heard_by_relay (Hear source m) Heard = not (m.sender == m.target)
is_heard_by_relay call reply = false

-- there is something
abbrev pub is_there : {A : Type 0} → Option A → Bool
is_there None = false
is_there (Some x) = true

-- a message was dropped for that reason
abbrev pub is_dropped_as : DropReason → Reply → Bool
is_dropped_as why (Dropped other) = drop_number other == drop_number why
is_dropped_as why reply = false

-- an accepted removal of any member
abbrev pub is_leaving : Call → Reply → Bool
is_leaving (Remove id) Removed = true
is_leaving call reply = false

abbrev pub pinged : Entry → Bool
pinged e = is_pinged e.call

abbrev pub heard_directly : Entry → Bool
heard_directly e = is_heard_directly e.call e.reply

abbrev pub heard_by_relay : Entry → Bool
heard_by_relay e = is_heard_by_relay e.call e.reply

-- a request of another member was taken on: its target was pinged for it
abbrev pub serves : Entry → Bool
serves e = is_there (asked_in e.call e.reply)

abbrev pub dropped_as : DropReason → Entry → Bool
dropped_as why e = is_dropped_as why e.reply

-- a start that judges a member failed
abbrev pub judges : Entry → Bool
judges e = is_there (judged_in e.reply)

abbrev pub leaves : Entry → Bool
leaves e = is_leaving e.call e.reply

-- ---- late acks

-- the number of the last period that began: the last one used as the life began, and one more at each start
abbrev pub last_begun : Setting → List Entry → ℕ
last_begun o [] = o.last
last_begun o (e ∷ before) = number_then e.reply (last_begun o before)

-- an ack of an own probe came after the end of its period: it is stray, and its number is below that of the period that
-- runs
abbrev pub is_late : Call → Reply → ℕ → Bool
is_late (Hear source ack) (Dropped Stray) number = nat_lt ack.number number
is_late call reply number = false

abbrev pub comes_late : Setting → List Entry → Entry → Bool
comes_late o before e = is_late e.call e.reply (last_begun o before)

-- how many came late in a life, and in all lives
abbrev pub late_in : Setting → List Entry → ℕ
late_in o [] = 0
late_in o (e ∷ before) = (if comes_late o before e then 1 else 0) + late_in o before

abbrev pub late : List Lived → ℕ
late [] = 0
late (life ∷ older) = late_in life.opening life.past + late older

-- ---- the table

-- how many members are up, and how many failed
abbrev pub up_in : List Row → ℕ
up_in rows = count_by (λ row. is_state_up row.state) rows

abbrev pub failed_in : List Row → ℕ
failed_in rows = count_by (λ row. not (is_state_up row.state)) rows
