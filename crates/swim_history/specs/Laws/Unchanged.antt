-- In a run a dropped message and a refused call change nothing that the rules look at.
use Rattle.std.proofs.Common.{◌≡◌, ℕ, Bool, true, false, ◌||◌, ◌&&◌, List, ◌∷◌, Option, Some, None, refl, sym, ap, ◌∙◌}
use Rattle.std.proofs.lemmas.Bool.{false≢true, eqb-true}
use Rattle.std.specs.Prelude.{option_and_then, ◌==◌}
use Rattle.std.specs.List.{list_any}
use Rattle.swim_wire.specs.Address.{Address}
use Rattle.swim_wire.specs.declared.messages.Kind.{Kind}
use Rattle.swim_wire.specs.declared.messages.Kind.TheVariants.{Ping, PingReq, Ack}
use Rattle.swim_wire.specs.Messages.{Message}
use Rattle.swim_history.specs.declared.calls.Call.{Call}
use Rattle.swim_history.specs.declared.calls.Call.TheVariants.{Tick, Hear, Join, Remove}
use Rattle.swim_history.specs.declared.replies.Reply.{Reply}
use Rattle.swim_history.specs.declared.replies.Reply.TheVariants.{Dropped, Refused}
use Rattle.swim_history.specs.declared.replies.DropReason.{DropReason}
use Rattle.swim_history.specs.declared.replies.DropReason.TheVariants.{Stray, NoRequest}
use Rattle.swim_history.specs.declared.replies.Refusal.{Refusal}
use Rattle.swim_history.specs.declared.entries.Choice.{Choice}
use Rattle.swim_history.specs.declared.entries.Choice.TheVariants.{Nothing, Round}
use Rattle.swim_history.specs.declared.entries.Entry.{Entry}
use Rattle.swim_history.specs.Setting.{Setting}
use Rattle.swim_history.specs.Events.{is_tick, is_start, is_ack, removes, acks}
use Rattle.swim_history.specs.Clock.{period_number}
use Rattle.swim_history.specs.Aim.{since, unless, last_probed, aim, was_heard, unheard}
use Rattle.swim_history.specs.Rows.{row_of}
use Rattle.swim_history.specs.Changes.{change_by}
use Rattle.swim_history.specs.Laws.Table.{table_next}
use Rattle.swim_history.specs.Round.{lists, lists_then}
use Rattle.swim_history.specs.Waiting.{asked_in, sent_on_in}
use Rattle.swim_history.specs.Laws.Waiting.{waiting_same}
use Rattle.swim_history.specs.Run.{Answers, Hears, Continues}
use Rattle.swim_history.specs.Unchanged.{is_declining, IsUnchanged}

-- what an entry has to be for that
record ChangesNothing (o : Setting) (h : List Entry) (e : Entry) : Type 0 where
  idle : is_tick e ≡ false
  goes_on : is_start e ≡ false
  lists_stay : lists_then e.call e.reply e.choice (lists o h) ≡ lists o h
  rows_stay : (id : ℕ) → row_of o (e ∷ h) id ≡ row_of o h id
  no_change : change_by e.call e.reply (period_number o h) ≡ None
  none_removed : (m : ℕ) → removes m e ≡ false
  -- no ack of the aim for the period that runs
  unacked : (m : ℕ) → aim h ≡ Some m → acks o.me m (period_number o h) e ≡ false
  unasked : asked_in e.call e.reply ≡ None
  unsent : sent_on_in e.call e.reply ≡ None

number_stays : (o : Setting) (h : List Entry) (e : Entry) → is_tick e ≡ false →
    period_number o (e ∷ h) ≡ period_number o h
number_stays o h e idle = rw idle refl

aim_stays : (o : Setting) (h : List Entry) (e : Entry) → ChangesNothing o h e → aim (e ∷ h) ≡ aim h
aim_stays o h e c =
    rw c.goes_on (ap (λ (gone : ℕ → Bool). option_and_then (λ m. unless (gone m) m) (last_probed h))
    (λ i m. (c.none_removed m i) || list_any (removes m) (since is_start h)))

heard_stays : (o : Setting) (h : List Entry) (e : Entry) → ChangesNothing o h e → (m : ℕ) → aim h ≡ Some m →
    was_heard o (e ∷ h) m ≡ was_heard o h m
heard_stays o h e c m aimed =
    let same = number_stays o h e c.idle in
    let unacked : acks o.me m (period_number o (e ∷ h)) e ≡ false = rw same (c.unacked m aimed) in
    rw (c.goes_on, unacked) (ap (λ number. list_any (acks o.me m number) (since is_start h)) same)

unheard_stays : (o : Setting) (h : List Entry) (e : Entry) → ChangesNothing o h e → unheard o (e ∷ h) ≡ unheard o h
unheard_stays o h e c =
    ap (λ a. option_and_then (λ m. unless (was_heard o (e ∷ h) m) m) a) (aim_stays o h e c) ∙ by (aim h) refl
  where
    by : (a : Option ℕ) → aim h ≡ a → option_and_then (λ m. unless (was_heard o (e ∷ h) m) m) a ≡ option_and_then
        (λ m. unless (was_heard o h m) m) a
    by None is = refl
    by (Some m) is = ap (λ b. unless b m) (heard_stays o h e c m is)

unchanged : (o : Setting) (h : List Entry) (e : Entry) → ChangesNothing o h e → IsUnchanged o h e
unchanged o h e c = record {
  clock = rw c.idle refl;
  round = c.lists_stay;
  rows = c.rows_stay;
  members = table_next o h e ∙ rw c.no_change refl;
  aimed = aim_stays o h e c;
  unheard_aim = unheard_stays o h e c;
  requests = waiting_same o h e c.idle c.unasked c.unsent;
}

-- a message is never refused
pub no_refusal : (o : Setting) (h : List Entry) (m : Message) (source : Address) (kind : Kind) (why : Refusal) →
    Hears o h m source kind (Refused why) → ⊥
no_refusal o h m source Ping why a = a
no_refusal o h m source PingReq why a = a
no_refusal o h m source Ack why a = a

not_both : (own same_target same_number : Bool) → (same_target ≡ true → same_number ≡ true → ⊥) →
    (own && same_target && same_number) ≡ false
not_both own true true never = absurd (never refl refl)
not_both true true false never = refl
not_both false true false never = refl
not_both true false true never = refl
not_both true false false never = refl
not_both false false true never = refl
not_both false false false never = refl

not_first : (own same_target same_number : Bool) → (own ≡ true → ⊥) → (own && same_target && same_number) ≡ false
not_first true same_target same_number never = absurd (never refl)
not_first false same_target same_number never = refl

-- a dropped message is no ack of the aim for the period that runs
no_ack : (o : Setting) (h : List Entry) (m : Message) (source : Address) (kind : Kind) (why : DropReason) →
    Hears o h m source kind (Dropped why) →
    (target : ℕ) → aim h ≡ Some target →
    (is_ack kind && (m.initiator == o.me) && (m.target == target) && (m.number == period_number o h)) ≡ false
no_ack o h m source Ping why a target aimed = refl
no_ack o h m source PingReq why a target aimed = refl
no_ack o h m source Ack Stray a target aimed =
    not_both (m.initiator == o.me) (m.target == target) (m.number == period_number o h)
    (λ same_target same_number.
    a.1 (aimed ∙ ap Some (sym (eqb-true m.target target same_target)))
    (eqb-true m.number (period_number o h) same_number))
no_ack o h m source Ack NoRequest a target aimed =
    not_first (m.initiator == o.me) (m.target == target) (m.number == period_number o h)
    (λ own. a.0 (eqb-true m.initiator o.me own))
no_ack o h m source Ack why a target aimed = absurd a

-- a call that is neither a message nor a tick, and is refused
refused : (o : Setting) (h : List Entry) (seat number : ℕ) (call : Call) (why : Refusal) (choice : Choice) →
    Answers o h call (Refused why) choice →
    ChangesNothing o h (record { seat = seat; number = number; call = call; choice = choice; reply = Refused why })
refused o h seat number (Hear source m) why Nothing a = absurd (no_refusal o h m source m.kind why a)
refused o h seat number (Hear source m) why (Round order) a = absurd a
refused o h seat number Tick why choice a = record {
  idle = refl;
  goes_on = refl;
  lists_stay = refl;
  rows_stay = λ id. refl;
  no_change = refl;
  none_removed = λ m. refl;
  unacked = λ m aimed. refl;
  unasked = refl;
  unsent = refl;
}
refused o h seat number (Join id peer) why choice a = record {
  idle = refl;
  goes_on = refl;
  lists_stay = refl;
  rows_stay = λ id. refl;
  no_change = refl;
  none_removed = λ m. refl;
  unacked = λ m aimed. refl;
  unasked = refl;
  unsent = refl;
}
refused o h seat number (Remove id) why choice a = record {
  idle = refl;
  goes_on = refl;
  lists_stay = refl;
  rows_stay = λ id. refl;
  no_change = refl;
  none_removed = λ m. refl;
  unacked = λ m aimed. refl;
  unasked = refl;
  unsent = refl;
}

dropped : (o : Setting) (h : List Entry) (seat number : ℕ) (call : Call) (why : DropReason) (choice : Choice) →
    Answers o h call (Dropped why) choice →
    ChangesNothing o h (record { seat = seat; number = number; call = call; choice = choice; reply = Dropped why })
dropped o h seat number Tick why choice a = absurd a
dropped o h seat number (Join id peer) why choice a = absurd a
dropped o h seat number (Remove id) why choice a = absurd a
dropped o h seat number (Hear source m) why (Round order) a = absurd a
dropped o h seat number (Hear source m) why Nothing a = record {
  idle = refl;
  goes_on = refl;
  lists_stay = refl;
  rows_stay = λ id. refl;
  no_change = refl;
  none_removed = λ id. refl;
  unacked = no_ack o h m source m.kind why a;
  unasked = refl;
  unsent = refl;
}

changes_nothing : (o : Setting) (h : List Entry) (seat number : ℕ) (call : Call) (reply : Reply) (choice : Choice) →
    Answers o h call reply choice → is_declining reply ≡ true →
    ChangesNothing o h (record { seat = seat; number = number; call = call; choice = choice; reply = reply })
changes_nothing o h seat number call (Dropped why) choice a declines = dropped o h seat number call why choice a
changes_nothing o h seat number call (Refused why) choice a declines = refused o h seat number call why choice a
changes_nothing o h seat number call reply choice a declines = absurd (false≢true declines)

pub declining_changes_nothing : (o : Setting) (h : List Entry) (e : Entry) → Continues o h e →
    is_declining e.reply ≡ true → IsUnchanged o h e
declining_changes_nothing o h e c declines =
    unchanged o h e (changes_nothing o h e.seat e.number e.call e.reply e.choice c.answer declines)
