-- The sequential detector: which entries may follow a history (sections 3.1 and 4.3 of the SWIM paper).
-- A history is a list of entries, newest first. Nothing here but the entries themselves is remembered.
use Rattle.std.specs.Prelude.{◌≡◌, ◌≢◌, ◌⊎◌, ℕ, ◌+◌, ◌-◌, ◌^◌, ◌<◌, ◌≤◌, ◌==◌, Bool, true, false, List, [], ◌∷◌, length}
use Rattle.std.specs.Prelude.{min, map, filter, Option, Some, None}
use Rattle.std.specs.List.{AllByRecursion}
use Rattle.std.specs.Option.{option_or}
use Rattle.swim_wire.specs.Address.{Address}
use Rattle.swim_wire.specs.Ids.{most_members, has, has_twice, without, front}
use Rattle.swim_wire.specs.Probe.{key_of, ping_by, ack_by}
use Rattle.swim_wire.specs.Requests.{most_waiting, waits, asker_for}
use Rattle.swim_wire.specs.Round.{leave_judged, MayDraw, redraw}
use Rattle.swim_wire.specs.declared.messages.Kind.{Kind}
use Rattle.swim_wire.specs.declared.messages.Kind.TheVariants.{Ping, PingReq, Ack}
use Rattle.swim_wire.specs.Messages.{Message}
use Rattle.swim_wire.specs.declared.messages.Version.{Version}
use Rattle.swim_history.specs.declared.calls.Call.{Call}
use Rattle.swim_history.specs.declared.calls.Call.TheVariants.{Tick, Hear, Join, Remove}
use Rattle.swim_history.specs.declared.replies.Reply.{Reply}
use Rattle.swim_history.specs.declared.replies.Reply.TheVariants.{Quiet, Started, Asked, Heard, Send, Dropped, Joined}
use Rattle.swim_history.specs.declared.replies.Reply.TheVariants.{Removed, Refused}
use Rattle.swim_history.specs.declared.replies.Probe.{Probe}
use Rattle.swim_history.specs.declared.replies.Relay.{Relay}
use Rattle.swim_history.specs.declared.replies.DropReason.TheVariants.{NotForMe, Borrowed, AboutMe, Unlisted, TableFull}
use Rattle.swim_history.specs.declared.replies.DropReason.TheVariants.{Stray, NoRequest}
use Rattle.swim_history.specs.declared.replies.Refusal.TheVariants.{Myself, Listed, Full, Unknown, Spent}
use Rattle.swim_history.specs.declared.entries.Choice.{Choice}
use Rattle.swim_history.specs.declared.entries.Choice.TheVariants.{Nothing}
use Rattle.swim_history.specs.declared.entries.Entry.{Entry}
use Rattle.swim_history.specs.Setting.{Setting}
use Rattle.swim_history.specs.Clock.{period_number, phase}
use Rattle.swim_history.specs.Aim.{aim, unheard}
use Rattle.swim_history.specs.Rows.{up, row_of, where_listed, is_listed}
use Rattle.swim_history.specs.Changes.{known_count}
use Rattle.swim_history.specs.Round.{lists, listed, drawn}
use Rattle.swim_history.specs.Waiting.{waiting}

-- The most periods: the last number.
abbrev pub greatest_number : ℕ
greatest_number = 2 ^ 64 - 1

-- the probe of a new period: of the next member at its address, if there is a next
abbrev pub IsProbe : Setting → List Entry → ℕ → Option ℕ → Option Probe → Type 0
IsProbe o h number None probe = probe ≡ None
IsProbe o h number (Some m) probe =
    (peer : Address) × (row_of o h m ≡ Some (up m peer))
    × (probe ≡ Some (record { target = m; peer = peer; number = number }))

-- a tick by which a period begins, and the one before, if any, ends
pub record IsStart (o : Setting) (h : List Entry) (judged : Option ℕ) (probe : Option Probe)
    (choice : Choice) : Type 0 where
  pub begins : phase o h ≡ 0
  pub unspent : period_number o h < greatest_number
  pub judges : judged ≡ unheard o h
  pub draws : MayDraw (drawn choice) (leave_judged judged (lists o h))
  pub probes : IsProbe o h (period_number o h + 1)
      (front (redraw (drawn choice) (leave_judged judged (lists o h))).rest) probe

-- the listed members that may be asked to ping the aim
abbrev pub candidates : Setting → List Entry → ℕ → List ℕ
candidates o h m = without m (listed o h)

-- k different listed members other than the aim, with their addresses; all of them where there are fewer
pub record AreRelays (o : Setting) (h : List Entry) (m : ℕ) (relays : List Relay) : Type 0 where
  pub count : length relays ≡ min o.k (length (candidates o h m))
  pub once : has_twice (map (λ relay. relay.id) relays) ≡ false
  pub each : AllByRecursion
      (λ relay. (has (candidates o h m) relay.id ≡ true) × (row_of o h relay.id ≡ Some (up relay.id relay.peer))) relays

-- a request that its sender began, of a member other than this one
abbrev pub IsRequest : ℕ → Message → Type 0
IsRequest me m = (m.initiator ≡ m.sender) × (m.initiator ≢ me)

-- whether a probe is among those that wait
abbrev pub is_waiting : Setting → List Entry → Message → Bool
is_waiting o h m = waits (key_of m) (waiting o h)

-- where the target of a request is: where this member lists it, else where the request says
abbrev pub target_at : Setting → List Entry → Message → Option Address
target_at o h m = option_or (where_listed (row_of o h m.target)) m.at

-- the replies to a message, by its kind. An ack to a ping has the version of the ping, a ping that is sent for a
-- request
-- the version of the request, and an ack that is sent on the version of the request that waits for it.
abbrev pub Hears : Setting → List Entry → Message → Address → Kind → Reply → Type 0
Hears o h m source Ping (Dropped NotForMe) = m.target ≢ o.me
Hears o h m source Ping (Send peer ack) = (m.target ≡ o.me) × (peer ≡ source) × (ack ≡ ack_by m.version o.me m)
Hears o h m source PingReq (Dropped Borrowed) = (m.initiator ≢ m.sender) ⊎ (m.initiator ≡ o.me)
Hears o h m source PingReq (Dropped AboutMe) = IsRequest o.me m × (m.target ≡ o.me)
Hears o h m source PingReq (Dropped Unlisted) = IsRequest o.me m × (m.target ≢ o.me) × (target_at o h m ≡ None)
Hears o h m source PingReq (Dropped TableFull) =
    IsRequest o.me m × (m.target ≢ o.me) × (target_at o h m ≢ None) × (is_waiting o h m ≡ false)
    × (most_waiting ≤ length (waiting o h))
Hears o h m source PingReq (Send peer ping) =
    IsRequest o.me m × (m.target ≢ o.me) × (target_at o h m ≡ Some peer)
    × (is_waiting o h m ≡ false → length (waiting o h) < most_waiting) × (ping ≡ ping_by o.me m)
Hears o h m source Ack Heard = (m.initiator ≡ o.me) × (aim h ≡ Some m.target) × (m.number ≡ period_number o h)
Hears o h m source Ack (Dropped Stray) = (m.initiator ≡ o.me) × (aim h ≡ Some m.target → m.number ≢ period_number o h)
Hears o h m source Ack (Send peer ack) =
    (m.initiator ≢ o.me) × (version : Version) × (asker_for (key_of m) (waiting o h) ≡ Some (peer, version))
    × (ack ≡ ack_by version o.me m)
Hears o h m source Ack (Dropped NoRequest) = (m.initiator ≢ o.me) × (asker_for (key_of m) (waiting o h) ≡ None)
Hears o h m source kind reply = ⊥

-- the replies to a call, with what was drawn
abbrev pub Answers : Setting → List Entry → Call → Reply → Choice → Type 0
Answers o h Tick (Refused Spent) Nothing = (phase o h ≡ 0) × (period_number o h ≡ greatest_number)
Answers o h Tick (Started judged probe) choice = IsStart o h judged probe choice
Answers o h Tick (Asked m peer number relays) Nothing =
    (phase o h ≡ o.rtt) × (unheard o h ≡ Some m) × (number ≡ period_number o h) × AreRelays o h m relays.items
    × (row_of o h m ≡ Some (up m peer))
Answers o h Tick Quiet Nothing = (phase o h ≢ 0) × (phase o h ≡ o.rtt → unheard o h ≡ None)
Answers o h (Hear source m) reply Nothing = Hears o h m source m.kind reply
Answers o h (Join id peer) (Refused Myself) Nothing = id ≡ o.me
Answers o h (Join id peer) (Refused Listed) Nothing = (id ≢ o.me) × (is_listed o h id ≡ true)
Answers o h (Join id peer) (Refused Full) Nothing =
    (id ≢ o.me) × (row_of o h id ≡ None) × (known_count o h ≡ most_members)
Answers o h (Join id peer) (Joined place) Nothing =
    (id ≢ o.me) × (is_listed o h id ≡ false) × (row_of o h id ≡ None → known_count o h ≢ most_members)
    × (place ≤ length (listed o h))
Answers o h (Remove id) (Refused Myself) Nothing = id ≡ o.me
Answers o h (Remove id) (Refused Unknown) Nothing = (id ≢ o.me) × (row_of o h id ≡ None)
Answers o h (Remove id) Removed Nothing = (id ≢ o.me) × (row_of o h id ≢ None)
Answers o h call reply choice = ⊥

-- how many seats call the detector, numbered from 0
abbrev pub seats : ℕ
seats = 4

-- how many calls of a seat stand in a history
abbrev pub calls_of : ℕ → List Entry → ℕ
calls_of seat h = length (filter (λ e. e.seat == seat) h)

-- the entry may follow the history
pub record Continues (o : Setting) (h : List Entry) (e : Entry) : Type 0 where
  pub seat : e.seat < seats
  pub number : e.number ≡ calls_of e.seat h
  pub answer : Answers o h e.call e.reply e.choice

-- each entry follows those before it
abbrev pub IsRun : Setting → List Entry → Type 0
IsRun o [] = Unit {0}
IsRun o (e ∷ before) = Continues o before e × IsRun o before
