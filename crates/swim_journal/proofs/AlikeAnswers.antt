-- What may be answered after a history is the same, whoever called in it.
use Rattle.std.proofs.Common.{◌≡◌, ℕ, ◌+◌, true, List, [], ◌∷◌, Option, Some, None, sym, ◌∙◌}
use Rattle.std.specs.List.{AllByRecursion}
use Rattle.swim_wire.specs.Address.{Address}
use Rattle.swim_wire.specs.declared.messages.Kind.{Kind}
use Rattle.swim_wire.specs.declared.messages.Kind.TheVariants.{Ping, PingReq, Ack}
use Rattle.swim_wire.specs.Messages.{Message}
use Rattle.swim_history.specs.declared.calls.Call.{Call}
use Rattle.swim_history.specs.declared.calls.Call.TheVariants.{Tick, Hear, Join, Remove}
use Rattle.swim_history.specs.declared.replies.Reply.{Reply}
use Rattle.swim_history.specs.declared.replies.Reply.TheVariants.{Quiet, Started, Asked, Heard, Send, Dropped, Joined}
use Rattle.swim_history.specs.declared.replies.Reply.TheVariants.{Removed, Refused}
use Rattle.swim_history.specs.declared.replies.Relay.{Relay}
use Rattle.swim_history.specs.declared.replies.DropReason.TheVariants.{NotForMe, Borrowed, AboutMe, Unlisted, TableFull}
use Rattle.swim_history.specs.declared.replies.DropReason.TheVariants.{Stray, NoRequest}
use Rattle.swim_history.specs.declared.replies.Refusal.TheVariants.{Myself, Listed, Full, Unknown, Spent}
use Rattle.swim_history.specs.declared.entries.Choice.{Choice}
use Rattle.swim_history.specs.declared.entries.Choice.TheVariants.{Nothing}
use Rattle.swim_history.specs.declared.entries.Entry.{Entry}
use Rattle.swim_history.specs.Setting.{Setting}
use Rattle.swim_history.specs.Clock.{period_number}
use Rattle.swim_history.specs.Rows.{row_of}
use Rattle.swim_history.specs.Round.{lists}
use Rattle.swim_history.specs.Run.{Answers, Hears, IsStart, AreRelays, candidates}
use Rattle.swim_journal.specs.Seatless.{Alike}
use Rattle.swim_journal.proofs.Alike.{ticks_alike, aim_alike, unheard_alike, row_alike, lists_alike, changes_alike}
use Rattle.swim_journal.proofs.Alike.{waiting_alike}

relays_alike : (o : Setting) (h h' : List Entry) (m : ℕ) (relays : List Relay) → Alike h h' → AreRelays o h m relays →
    AreRelays o h' m relays
relays_alike o h h' m relays a r = record {
  count = rw (← lists_alike o h h' a) r.count;
  once = r.once;
  each = each relays r.each;
}
  where
    each : (rs : List Relay) →
        AllByRecursion (λ relay. (Rattle.swim_wire.specs.Ids.has (candidates o h m) relay.id ≡ true) ×
        (row_of o h relay.id ≡ Some (Rattle.swim_history.specs.Rows.up relay.id relay.peer))) rs
        → AllByRecursion (λ relay. (Rattle.swim_wire.specs.Ids.has (candidates o h' m) relay.id ≡ true) ×
        (row_of o h' relay.id ≡ Some (Rattle.swim_history.specs.Rows.up relay.id relay.peer))) rs
    each [] all = tt
    each (relay ∷ rs) all =
        ((rw (← lists_alike o h h' a) all.0.0, rw (← row_alike o h h' relay.id a) all.0.1), each rs all.1)

start_alike : (o : Setting) (h h' : List Entry) (judged : Option ℕ)
    (probe : Option Rattle.swim_history.specs.declared.replies.Probe.Probe) (choice : Choice) → Alike h h' →
    IsStart o h judged probe choice → IsStart o h' judged probe choice
start_alike o h h' judged probe choice a s =
    let ticks = ticks_alike h h' a in
    let lists = lists_alike o h h' a in
    record {
      begins = rw (← ticks) s.begins;
      unspent = rw (← ticks) s.unspent;
      judges = rw (← unheard_alike o h h' a) s.judges;
      draws = rw (← lists) s.draws;
      probes = rw (← ticks, ← lists)
          (by (Rattle.swim_wire.specs.Ids.front
          (Rattle.swim_wire.specs.Round.redraw (Rattle.swim_history.specs.Round.drawn choice)
          (Rattle.swim_wire.specs.Round.leave_judged judged (Rattle.swim_history.specs.Round.lists o h))).rest)
          s.probes);
    }
  where
    by : (m : Option ℕ) → Rattle.swim_history.specs.Run.IsProbe o h (period_number o h + 1) m probe →
        Rattle.swim_history.specs.Run.IsProbe o h' (period_number o h + 1) m probe
    by None p = p
    by (Some m) p = (p.0, sym (row_alike o h h' m a) ∙ p.1, p.2)

pub hears_alike : (o : Setting) (h h' : List Entry) (m : Message) (source : Address) (kind : Kind) (reply : Reply) →
    Alike h h' → Hears o h m source kind reply → Hears o h' m source kind reply
hears_alike o h h' m source Ping (Dropped NotForMe) a given = given
hears_alike o h h' m source Ping (Send peer ack) a given = given
hears_alike o h h' m source PingReq (Dropped Borrowed) a given = given
hears_alike o h h' m source PingReq (Dropped AboutMe) a given = given
hears_alike o h h' m source PingReq (Dropped Unlisted) a given = rw (← row_alike o h h' m.target a) given
hears_alike o h h' m source PingReq (Dropped TableFull) a given =
    rw (← row_alike o h h' m.target a, ← waiting_alike o.period [] [] h h' tt a) given
hears_alike o h h' m source PingReq (Send peer ping) a given =
    rw (← row_alike o h h' m.target a, ← waiting_alike o.period [] [] h h' tt a) given
hears_alike o h h' m source Ack Heard a given = rw (← aim_alike h h' a, ← ticks_alike h h' a) given
hears_alike o h h' m source Ack (Dropped Stray) a given = rw (← aim_alike h h' a, ← ticks_alike h h' a) given
hears_alike o h h' m source Ack (Send peer ack) a given = rw (← waiting_alike o.period [] [] h h' tt a) given
hears_alike o h h' m source Ack (Dropped NoRequest) a given = rw (← waiting_alike o.period [] [] h h' tt a) given
hears_alike o h h' m source kind reply a given = absurd given

pub answers_alike : (o : Setting) (h h' : List Entry) (call : Call) (reply : Reply) (choice : Choice) → Alike h h' →
    Answers o h call reply choice → Answers o h' call reply choice
answers_alike o h h' Tick (Refused Spent) Nothing a given = rw (← ticks_alike h h' a) given
answers_alike o h h' Tick (Started judged probe) choice a given = start_alike o h h' judged probe choice a given
answers_alike o h h' Tick (Asked m peer number relays) Nothing a given = (
  rw (← ticks_alike h h' a) given.0,
  rw (← unheard_alike o h h' a) given.1,
  rw (← ticks_alike h h' a) given.2,
  relays_alike o h h' m relays.items a given.3,
  rw (← row_alike o h h' m a) given.4,
)
answers_alike o h h' Tick Quiet Nothing a given = rw (← unheard_alike o h h' a, ← ticks_alike h h' a) given
answers_alike o h h' (Hear source m) reply Nothing a given = hears_alike o h h' m source m.kind reply a given
answers_alike o h h' (Join id peer) (Refused Myself) Nothing a given = given
answers_alike o h h' (Join id peer) (Refused Listed) Nothing a given = rw (← row_alike o h h' id a) given
answers_alike o h h' (Join id peer) (Refused Full) Nothing a given =
    rw (← row_alike o h h' id a, ← changes_alike o h h' a) given
answers_alike o h h' (Join id peer) (Joined place) Nothing a given =
    rw (← row_alike o h h' id a, ← changes_alike o h h' a, ← lists_alike o h h' a) given
answers_alike o h h' (Remove id) (Refused Myself) Nothing a given = given
answers_alike o h h' (Remove id) (Refused Unknown) Nothing a given = rw (← row_alike o h h' id a) given
answers_alike o h h' (Remove id) Removed Nothing a given = rw (← row_alike o h h' id a) given
answers_alike o h h' call reply choice a given = absurd given
