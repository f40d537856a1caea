-- What the rules look up in a history is the same, whoever called in it.
use Rattle.std.proofs.Common.{◌≡◌, ℕ, suc, Bool, true, false, cond, List, [], ◌∷◌, ◌++◌, length, filter, Option, Some}
use Rattle.std.proofs.Common.{None, refl, ap, ◌∙◌}
use Rattle.std.specs.Option.{option_to_list}
use Rattle.std.specs.Prelude.{option_and_then}
use Rattle.std.specs.List.{list_any}
use Rattle.swim_history.specs.declared.calls.Call.{Call}
use Rattle.swim_history.specs.declared.replies.Reply.{Reply}
use Rattle.swim_history.specs.declared.replies.Reply.TheVariants.{Quiet, Started, Asked, Heard, Send, Dropped, Joined}
use Rattle.swim_history.specs.declared.replies.Reply.TheVariants.{Removed, Refused}
use Rattle.swim_history.specs.declared.entries.Choice.TheVariants.{Nothing}
use Rattle.swim_history.specs.declared.entries.Entry.{Entry}
use Rattle.swim_history.specs.Setting.{Setting}
use Rattle.swim_history.specs.Events.{is_tick, is_start, is_removing, is_acking}
use Rattle.swim_history.specs.Clock.{ticks, period_number}
use Rattle.swim_history.specs.Aim.{since, last_probed, aim, was_heard, unheard, unless}
use Rattle.swim_history.specs.Rows.{row_of}
use Rattle.swim_history.specs.Round.{lists}
use Rattle.swim_history.specs.Changes.{changes}
use Rattle.swim_history.specs.Waiting.{Asking, is_same, sent_on_in, asked_in, left_of, waiting_since}
use Rattle.swim_journal.specs.Seatless.{Alike}

count_alike : (f : Call → Reply → Bool) (h h' : List Entry) → Alike h h' →
    length (filter (λ e. f e.call e.reply) h) ≡ length (filter (λ e. f e.call e.reply) h')
count_alike f [] [] a = refl
count_alike f [] (e' ∷ h') a = absurd a
count_alike f (e ∷ h) [] a = absurd a
count_alike f (e ∷ h) (e' ∷ h') a =
    by (f e.call e.reply) (f e'.call e'.reply) (rw (a.0.call, a.0.reply) refl) (count_alike f h h' a.1)
  where
    by : (b b' : Bool) → b ≡ b' →
        length (filter (λ e. f e.call e.reply) h) ≡ length (filter (λ e. f e.call e.reply) h') →
        length (cond b (e ∷ filter (λ e. f e.call e.reply) h) (filter (λ e. f e.call e.reply) h)) ≡
        length (cond b' (e' ∷ filter (λ e. f e.call e.reply) h') (filter (λ e. f e.call e.reply) h'))
    by true true s r = ap suc r
    by false false s r = r
    by true false s r = absurd cc
    by false true s r = absurd cc

any_alike : (f : Call → Reply → Bool) (h h' : List Entry) → Alike h h' →
    list_any (λ e. f e.call e.reply) h ≡ list_any (λ e. f e.call e.reply) h'
any_alike f [] [] a = refl
any_alike f [] (e' ∷ h') a = absurd a
any_alike f (e ∷ h) [] a = absurd a
any_alike f (e ∷ h) (e' ∷ h') a = rw (a.0.call, a.0.reply, any_alike f h h' a.1) refl

since_alike : (h h' : List Entry) → Alike h h' → Alike (since is_start h) (since is_start h')
since_alike [] [] a = tt
since_alike [] (e' ∷ h') a = absurd a
since_alike (e ∷ h) [] a = absurd a
since_alike (e ∷ h) (e' ∷ h') a = by (is_start e) (is_start e') (rw (a.0.reply) refl) (since_alike h h' a.1)
  where
    by : (b b' : Bool) → b ≡ b' → Alike (since is_start h) (since is_start h') →
        Alike (cond b [] (e ∷ since is_start h)) (cond b' [] (e' ∷ since is_start h'))
    by true true s r = tt
    by false false s r = (a.0, r)
    by true false s r = absurd cc
    by false true s r = absurd cc

pub ticks_alike : (h h' : List Entry) → Alike h h' → ticks h ≡ ticks h'
ticks_alike h h' a = count_alike
    (λ call reply. is_tick (record { seat = 0; number = 0; call = call; choice = Nothing; reply = reply })) h h' a

probed_alike : (h h' : List Entry) → Alike h h' → last_probed h ≡ last_probed h'
probed_alike [] [] a = refl
probed_alike [] (e' ∷ h') a = absurd a
probed_alike (e ∷ h) [] a = absurd a
probed_alike (e ∷ h) (e' ∷ h') a = by e.reply e'.reply a.0.reply (probed_alike h h' a.1)
  where
    next : List Entry → Reply → Entry → Option ℕ
    next before reply e =
        last_probed (record { seat = e.seat; number = e.number; call = e.call; choice = e.choice; reply = reply } ∷
        before)

    by : (r r' : Reply) → r ≡ r' → last_probed h ≡ last_probed h' → next h r e ≡ next h' r' e'
    by Quiet r' s again = rw (← s) again
    by (Started judged probe) r' s again = rw (← s) refl
    by (Asked m peer number relays) r' s again = rw (← s) again
    by Heard r' s again = rw (← s) again
    by (Send peer message) r' s again = rw (← s) again
    by (Dropped why) r' s again = rw (← s) again
    by (Joined place) r' s again = rw (← s) again
    by Removed r' s again = rw (← s) again
    by (Refused why) r' s again = rw (← s) again

unless_alike : (f g : ℕ → Bool) (m m' : Option ℕ) → ((id : ℕ) → f id ≡ g id) → m ≡ m' →
    option_and_then (λ id. unless (f id) id) m ≡ option_and_then (λ id. unless (g id) id) m'
unless_alike f g None m' same s = rw (← s) refl
unless_alike f g (Some id) m' same s = rw (← s, same id) refl

pub aim_alike : (h h' : List Entry) → Alike h h' → aim h ≡ aim h'
aim_alike h h' a = unless_alike (λ m. list_any (λ e. is_removing m e.call e.reply) (since is_start h))
    (λ m. list_any (λ e. is_removing m e.call e.reply) (since is_start h')) (last_probed h) (last_probed h')
    (λ m. any_alike (is_removing m) (since is_start h) (since is_start h') (since_alike h h' a)) (probed_alike h h' a)

heard_alike : (o : Setting) (h h' : List Entry) (m : ℕ) → Alike h h' → was_heard o h m ≡ was_heard o h' m
heard_alike o h h' m a =
    ap (λ n. list_any (λ e. is_acking o.me m n e.call) (since is_start h)) (ap (λ t. number t) (ticks_alike h h' a)) ∙
    any_alike (λ call reply. is_acking o.me m (period_number o h') call) (since is_start h) (since is_start h')
    (since_alike h h' a)
  where
    number : ℕ → ℕ
    number t = Rattle.swim_history.specs.Clock.number_at o.last o.period t

pub unheard_alike : (o : Setting) (h h' : List Entry) → Alike h h' → unheard o h ≡ unheard o h'
unheard_alike o h h' a =
    unless_alike (was_heard o h) (was_heard o h') (aim h) (aim h') (λ m. heard_alike o h h' m a) (aim_alike h h' a)

pub row_alike : (o : Setting) (h h' : List Entry) (id : ℕ) → Alike h h' → row_of o h id ≡ row_of o h' id
row_alike o [] [] id a = refl
row_alike o [] (e' ∷ h') id a = absurd a
row_alike o (e ∷ h) [] id a = absurd a
row_alike o (e ∷ h) (e' ∷ h') id a = rw (a.0.call, a.0.reply, ticks_alike h h' a.1, row_alike o h h' id a.1) refl

pub lists_alike : (o : Setting) (h h' : List Entry) → Alike h h' → lists o h ≡ lists o h'
lists_alike o [] [] a = refl
lists_alike o [] (e' ∷ h') a = absurd a
lists_alike o (e ∷ h) [] a = absurd a
lists_alike o (e ∷ h) (e' ∷ h') a = rw (a.0.call, a.0.reply, a.0.choice, lists_alike o h h' a.1) refl

pub changes_alike : (o : Setting) (h h' : List Entry) → Alike h h' → changes o h ≡ changes o h'
changes_alike o [] [] a = refl
changes_alike o [] (e' ∷ h') a = absurd a
changes_alike o (e ∷ h) [] a = absurd a
changes_alike o (e ∷ h) (e' ∷ h') a = rw (a.0.call, a.0.reply, ticks_alike h h' a.1, changes_alike o h h' a.1) refl

left_alike : (period : ℕ) (h h' : List Entry) (x : Asking) → Alike h h' → left_of period h x ≡ left_of period h' x
left_alike period h h' x a =
    rw (any_alike (λ call reply. is_same x.key (sent_on_in call reply)) h h' a, ticks_alike h h' a) refl

pub waiting_alike : (period : ℕ) (newer newer' h h' : List Entry) → Alike newer newer' → Alike h h' →
    waiting_since period newer h ≡ waiting_since period newer' h'
waiting_alike period newer newer' [] [] n a = refl
waiting_alike period newer newer' [] (e' ∷ h') n a = absurd a
waiting_alike period newer newer' (e ∷ h) [] n a = absurd a
waiting_alike period newer newer' (e ∷ h) (e' ∷ h') n a =
    let rest = waiting_alike period (e ∷ newer) (e' ∷ newer') h h' (a.0, n) a.1 in
    let asked : asked_in e.call e.reply ≡ asked_in e'.call e'.reply = rw (a.0.call, a.0.reply) refl in
    rw (rest, asked) (ap (λ l. waiting_since period (e' ∷ newer') h' ++ option_to_list l)
    (by (asked_in e'.call e'.reply)))
  where
    by : (x : Option Asking) → option_and_then (left_of period newer) x ≡ option_and_then (left_of period newer') x
    by None = refl
    by (Some x) = left_alike period newer newer' x n
