-- The reply to a call, but for what is free: the order of a round, and with it who is probed, the relays, and a
-- joiner's place.
use Rattle.std.specs.Prelude.{◌≡◌, ◌≢◌, ℕ, ◌==◌, Bool, true, false, ◌&&◌, ◌||◌, not, nat_le, List, [], length, Option}
use Rattle.std.specs.Prelude.{Some, None, if◌then◌else◌, is_none, refl}
use Rattle.std.proofs.Common.{◌<◌, ◌+◌, sym, ap, subst, ◌∙◌, inl, inr, arith}
use Rattle.std.proofs.lemmas.Bool.{ne_eqb, eq-eqb, eqb-true, lt-leb, le-leb, or_right}
use Rattle.std.proofs.lemmas.Option.{same_Some}
use Rattle.swim_wire.specs.Address.{Address}
use Rattle.swim_wire.specs.Probe.{key_of, ping_by, ack_by}
use Rattle.swim_wire.specs.Requests.{asker_for}
use Rattle.swim_wire.specs.Ids.{front}
use Rattle.swim_wire.specs.declared.messages.Kind.{Kind}
use Rattle.swim_wire.specs.declared.messages.Kind.TheVariants.{Ping, PingReq, Ack}
use Rattle.swim_wire.specs.Messages.{Message}
use Rattle.swim_wire.specs.declared.messages.Version.{Version}
use Rattle.swim_history.specs.declared.calls.Call.{Call}
use Rattle.swim_history.specs.declared.calls.Call.TheVariants.{Tick, Hear, Join, Remove}
use Rattle.swim_history.specs.declared.replies.Reply.{Reply}
use Rattle.swim_history.specs.declared.replies.Reply.TheVariants.{Quiet, Started, Asked, Heard, Send, Dropped, Joined}
use Rattle.swim_history.specs.declared.replies.Reply.TheVariants.{Removed, Refused}
use Rattle.swim_history.specs.declared.replies.DropReason.TheVariants.{NotForMe, Borrowed, AboutMe, Unlisted, TableFull}
use Rattle.swim_history.specs.declared.replies.DropReason.TheVariants.{Stray, NoRequest}
use Rattle.swim_history.specs.declared.replies.Refusal.TheVariants.{Myself, Listed, Full, Unknown, Spent}
use Rattle.swim_history.specs.declared.entries.Choice.{Choice}
use Rattle.swim_history.specs.declared.entries.Choice.TheVariants.{Nothing}
use Rattle.swim_history.specs.declared.entries.Entry.{Entry}
use Rattle.swim_history.specs.declared.rows.Row.{Row}
use Rattle.swim_history.specs.declared.replies.Probe.{Probe}
use Rattle.swim_wire.specs.Round.{leave_judged, redraw}
use Rattle.swim_history.specs.Round.{lists, drawn}
use Rattle.swim_history.specs.Setting.{Setting, IsSetting}
use Rattle.swim_history.specs.Clock.{period_number, phase}
use Rattle.swim_history.specs.Aim.{aim, unheard}
use Rattle.swim_history.specs.Gap.{is_member}
use Rattle.swim_history.specs.Rows.{up, row_of, is_listed}
use Rattle.swim_history.specs.Changes.{known_count}
use Rattle.swim_history.specs.Waiting.{waiting}
use Rattle.swim_history.specs.Run.{Answers, Hears, IsProbe, greatest_number, is_waiting, target_at}
use Rattle.swim_wire.specs.Requests.{most_waiting}

-- a reply without what is free
abbrev pub settled : Reply → Reply
settled (Started judged probe) = Started judged None
settled (Asked target peer number relays) = Asked target peer number (record { items = [] })
settled (Joined place) = Joined 0
settled reply = reply

-- the address in a row, if there is one
abbrev pub address_in : Option Row → Option Address
address_in None = None
address_in (Some row) = Some row.peer

-- others are asked to ping the aim, which is at an address
abbrev pub ask_for : ℕ → ℕ → Option Address → Reply
ask_for target number None = Quiet
ask_for target number (Some peer) = Asked target peer number (record { items = [] })

abbrev pub reply_to_timeout : Setting → List Entry → Option ℕ → Reply
reply_to_timeout o h None = Quiet
reply_to_timeout o h (Some target) = ask_for target (period_number o h) (address_in (row_of o h target))

abbrev pub reply_to_tick : Setting → List Entry → Reply
reply_to_tick o h =
    if phase o h == 0
    then (if period_number o h == greatest_number then Refused Spent else Started (unheard o h) None)
    else (if phase o h == o.rtt then reply_to_timeout o h (unheard o h) else Quiet)

-- sent to an address, if there is one
abbrev pub send_to : Option Address → Message → Reply → Reply
send_to None message otherwise = otherwise
send_to (Some peer) message otherwise = Send peer message

-- an ack is sent on to whoever waits for it, in the version in which it was asked for
abbrev pub send_on : Option (Address × Version) → (Version → Message) → Reply → Reply
send_on None ack otherwise = otherwise
send_on (Some asker) ack otherwise = Send asker.0 (ack asker.1)

abbrev pub reply_to_message : Setting → List Entry → Message → Address → Kind → Reply
reply_to_message o h m source Ping =
    if m.target == o.me then Send source (ack_by m.version o.me m) else Dropped NotForMe
reply_to_message o h m source PingReq =
    if not (m.initiator == m.sender) || m.initiator == o.me then Dropped Borrowed
    else (if m.target == o.me then Dropped AboutMe
    else (if is_none (target_at o h m) then Dropped Unlisted
    else (if not (is_waiting o h m) && nat_le most_waiting (length (waiting o h)) then Dropped TableFull
    else send_to (target_at o h m) (ping_by o.me m) (Dropped Unlisted))))
reply_to_message o h m source Ack =
    if m.initiator == o.me
    then (if is_member m.target (aim h) && m.number == period_number o h then Heard else Dropped Stray)
    else send_on (asker_for (key_of m) (waiting o h)) (λ version. ack_by version o.me m) (Dropped NoRequest)

abbrev pub reply_to : Setting → List Entry → Call → Reply
reply_to o h Tick = reply_to_tick o h
reply_to o h (Hear source m) = reply_to_message o h m source m.kind
reply_to o h (Join id peer) =
    if id == o.me then Refused Myself
    else (if is_listed o h id then Refused Listed
    else (if is_none (row_of o h id) && known_count o h == 128 then Refused Full else Joined 0))
reply_to o h (Remove id) =
    if id == o.me then Refused Myself
    else (if is_none (row_of o h id) then Refused Unknown else Removed)

-- a member that isn't the aim
not_aim : (aimed : Option ℕ) (target : ℕ) (number now : ℕ) → (aimed ≡ Some target → number ≢ now) →
    (is_member target aimed && number == now) ≡ false
not_aim None target number now other = refl
not_aim (Some m) target number now other = by (m == target) refl
  where
    by : (b : Bool) → (m == target) ≡ b → ((m == target) && number == now) ≡ false
    by true is = rw is (ne_eqb number now (other (ap Some (eqb-true m target is))))
    by false is = rw is refl

-- a request that still finds room
has_room : (waits : Bool) (count : ℕ) → (waits ≡ false → count < most_waiting) →
    (not waits && nat_le most_waiting count) ≡ false
has_room true count room = refl
has_room false count room = lt-leb most_waiting count (room refl)

-- a joiner that finds room
is_known-or_room : (row : Option Row) (count : ℕ) → (row ≡ None → count ≢ 128) → (is_none row && count == 128) ≡ false
is_known-or_room None count room = ne_eqb count 128 (room refl)
is_known-or_room (Some row) count room = refl

-- a tick in which nothing is to be done
quiet : (o : Setting) (h : List Entry) (at_timeout : Bool) (aimed : Option ℕ) → (at_timeout ≡ true → aimed ≡ None) →
    Quiet ≡ (if at_timeout then reply_to_timeout o h aimed else Quiet)
quiet o h true aimed none = rw (none refl) refl
quiet o h false aimed none = refl

is_none-some : {A : Type 0} (o : Option A) → (o ≡ None → ⊥) → is_none o ≡ false
is_none-some None h = absurd (h refl)
is_none-some (Some x) h = refl

hear_settled : (o : Setting) (h : List Entry) (m : Message) (source : Address) (kind : Kind) (reply : Reply) →
    Hears o h m source kind reply → settled reply ≡ reply_to_message o h m source kind
hear_settled o h m source Ping (Dropped NotForMe) a = rw (ne_eqb m.target o.me a) refl
hear_settled o h m source Ping (Send peer ack) a = rw (eq-eqb m.target o.me a.0, a.1, a.2) refl
hear_settled o h m source PingReq (Dropped Borrowed) a =
    elim a [
      | inl other ↦ rw (ne_eqb m.initiator m.sender other) refl
      | inr mine ↦ rw
          (or_right (not (m.initiator == m.sender)) (m.initiator == o.me) (eq-eqb m.initiator o.me mine)) refl
    ]
hear_settled o h m source PingReq (Dropped AboutMe) a =
    rw (eq-eqb m.initiator m.sender a.0.0, ne_eqb m.initiator o.me a.0.1, eq-eqb m.target o.me a.1) refl
hear_settled o h m source PingReq (Dropped Unlisted) a =
    rw (eq-eqb m.initiator m.sender a.0.0, ne_eqb m.initiator o.me a.0.1, ne_eqb m.target o.me a.1, a.2) refl
hear_settled o h m source PingReq (Dropped TableFull) a =
    rw (
      eq-eqb m.initiator m.sender a.0.0,
      ne_eqb m.initiator o.me a.0.1,
      ne_eqb m.target o.me a.1,
      is_none-some (target_at o h m) a.2,
      a.3,
      le-leb most_waiting (length (waiting o h)) a.4,
    ) refl
hear_settled o h m source PingReq (Send peer ping) a =
    rw (
      eq-eqb m.initiator m.sender a.0.0,
      ne_eqb m.initiator o.me a.0.1,
      ne_eqb m.target o.me a.1,
      a.2,
      has_room
          (is_waiting o h m) (length (waiting o h)) a.3,
      a.4,
    ) refl
hear_settled o h m source Ack Heard a =
    rw (eq-eqb m.initiator o.me a.0, a.1, eq-eqb m.target m.target refl, eq-eqb m.number (period_number o h) a.2) refl
hear_settled o h m source Ack (Dropped Stray) a =
    rw (eq-eqb m.initiator o.me a.0, not_aim (aim h) m.target m.number (period_number o h) a.1) refl
hear_settled o h m source Ack (Send peer ack) a = rw (ne_eqb m.initiator o.me a.0, a.2, a.3) refl
hear_settled o h m source Ack (Dropped NoRequest) a = rw (ne_eqb m.initiator o.me a.0, a.1) refl
hear_settled o h m source kind reply a = absurd a

-- the reply that fits a call is the one that is settled
pub answers_settled : (o : Setting) (h : List Entry) (call : Call) (reply : Reply) (choice : Choice) → IsSetting o →
    Answers o h call reply choice → settled reply ≡ reply_to o h call
answers_settled o h Tick (Refused Spent) Nothing s a =
    rw (eq-eqb (phase o h) 0 a.0, eq-eqb (period_number o h) greatest_number a.1) refl
answers_settled o h Tick (Started judged probe) choice s a =
    rw (
      eq-eqb (phase o h) 0 a.begins,
      ne_eqb (period_number o h) greatest_number (λ e. omega (arith, a.unspent)),
      a.judges,
    ) refl
answers_settled o h Tick (Asked m peer number relays) Nothing s a =
    rw (ne_eqb (phase o h) 0 (λ e. omega (arith, a.0, s.timing.0)), eq-eqb (phase o h) o.rtt a.0, a.1, a.2, a.4) refl
answers_settled o h Tick Quiet Nothing s a =
    rw (ne_eqb (phase o h) 0 a.0)
    (quiet o h (phase o h == o.rtt) (unheard o h) (λ e. a.1 (eqb-true (phase o h) o.rtt e)))
answers_settled o h (Hear source m) reply Nothing s a = hear_settled o h m source m.kind reply a
answers_settled o h (Join id peer) (Refused Myself) Nothing s a = rw (eq-eqb id o.me a) refl
answers_settled o h (Join id peer) (Refused Listed) Nothing s a = rw (ne_eqb id o.me a.0, a.1) refl
answers_settled o h (Join id peer) (Refused Full) Nothing s a =
    rw (ne_eqb id o.me a.0, a.1, eq-eqb (known_count o h) 128 a.2) refl
answers_settled o h (Join id peer) (Joined place) Nothing s a =
    rw (ne_eqb id o.me a.0, a.1, is_known-or_room (row_of o h id) (known_count o h) a.2) refl
answers_settled o h (Remove id) (Refused Myself) Nothing s a = rw (eq-eqb id o.me a) refl
answers_settled o h (Remove id) (Refused Unknown) Nothing s a = rw (ne_eqb id o.me a.0, a.1) refl
answers_settled o h (Remove id) Removed Nothing s a = rw (ne_eqb id o.me a.0, is_none-some (row_of o h id) a.1) refl
answers_settled o h call reply choice s a = absurd a

-- at most one reply fits a call, but for what is free
abbrev pub FitsOnce : Setting → Type 0
FitsOnce o = (h : List Entry) (call : Call) (first second : Reply) (one other : Choice) → Answers o h call first one →
    Answers o h call second other → settled first ≡ settled second

pub fits_once : (o : Setting) → IsSetting o → FitsOnce o
fits_once o s h call first second one other a b =
    answers_settled o h call first one s a ∙ sym (answers_settled o h call second other s b)

-- the address of a member that is up
pub address_once : (row : Option Row) (m : ℕ) (one other : Address) → row ≡ Some (up m one) → row ≡ Some (up m other) →
    one ≡ other
address_once row m one other a b = same_Some one other (sym (ap address_in a) ∙ ap address_in b)

-- one next member makes one probe
probe_once : (o : Setting) (h : List Entry) (number : ℕ) (next : Option ℕ) (one other : Option Probe) →
    IsProbe o h number next one → IsProbe o h number next other → one ≡ other
probe_once o h number None one other a b = a ∙ sym b
probe_once o h number (Some m) one other a b =
    a.2 ∙ ap (λ (peer : Address). Some (record { target = m; peer = peer; number = number }))
    (address_once (row_of o h m) m a.0 b.0 a.1 b.1) ∙ sym b.2

-- where the same order is drawn, or none both times, the same member is probed
abbrev pub StartsOnce : Setting → Type 0
StartsOnce o =
    (h : List Entry) (judged judged' : Option ℕ) (probe probe' : Option Probe) (choice : Choice) →
    Answers o h Tick (Started judged probe) choice → Answers o h Tick (Started judged' probe') choice →
    (judged ≡ judged') × (probe ≡ probe')

pub starts_once : (o : Setting) → StartsOnce o
starts_once o h judged judged' probe probe' choice a b =
    let same : judged ≡ judged' = a.judges ∙ sym b.judges in (
      same,
      probe_once o h (period_number o h + 1)
          (front (redraw (drawn choice) (leave_judged judged (lists o h))).rest) probe probe' a.probes
          (subst (λ (j : Option ℕ). IsProbe o h (period_number o h + 1)
          (front (redraw (drawn choice) (leave_judged j (lists o h))).rest) probe') (sym same) b.probes),
    )
