-- What one entry does to the requests that wait: a tick ages them, a request that is passed on takes the
-- place of those of its probe, an ack that is passed on ends them, and any other entry leaves them.
use Rattle.std.proofs.Common.{◌≡◌, ℕ, add-zero, ◌+◌, ◌-◌, ◌<◌, Bool, true, false, ◌||◌, cond, nat_lt, List, [], ◌∷◌}
use Rattle.std.proofs.Common.{◌++◌, Option, Some, None, refl, sym, ap, ◌∙◌, inl, inr, arith, length-append, append-nil}
use Rattle.std.proofs.lemmas.Cmp.{nat_eq_equiv}
use Rattle.std.proofs.Math.Bool.{or-false}
use Rattle.std.proofs.lemmas.Bool.{cases_lt, lt-ltb, le-ltb}
use Rattle.std.proofs.lemmas.List.{map-append}
use Rattle.std.proofs.lemmas.List.Elements.{filter-append}
use Rattle.std.proofs.lemmas.List.Folds.{list_any-append}
use Rattle.std.specs.Prelude.{filter, map, not, option_and_then}
use Rattle.std.specs.List.{list_any}
use Rattle.std.specs.Option.{option_to_list}
use Rattle.swim_wire.specs.Address.{Address}
use Rattle.swim_wire.specs.Probe.{key_of, same_key}
use Rattle.swim_wire.specs.Requests.{Request, forget, one_less, aged}
use Rattle.swim_wire.specs.declared.messages.Key.{Key}
use Rattle.swim_wire.specs.Messages.{Message}
use Rattle.swim_wire.specs.declared.messages.Kind.TheVariants.{PingReq, Ack}
use Rattle.swim_history.specs.declared.calls.Call.{Call}
use Rattle.swim_history.specs.declared.calls.Call.TheVariants.{Tick, Hear, Join, Remove}
use Rattle.swim_history.specs.declared.replies.Reply.{Reply}
use Rattle.swim_history.specs.declared.replies.Reply.TheVariants.{Send}
use Rattle.swim_history.specs.declared.entries.Entry.{Entry}
use Rattle.swim_history.specs.Setting.{Setting}
use Rattle.swim_history.specs.Events.{is_ticking, is_tick}
use Rattle.swim_history.specs.Clock.{ticks}
use Rattle.swim_history.specs.Waiting.{Asking, asked_in, sent_on_in, ends, left_of, waiting_since, waiting}

-- ---- one request

-- what is left of a request, by whether it was ended and how many ticks came since
abbrev left_by : ℕ → Asking → Bool → ℕ → Option Request
left_by period a ended passed =
    cond ended None
    (cond (nat_lt passed period)
    (Some (record { key = a.key; peer = a.peer; version = a.version; left = period - passed })) None)

-- one more entry after a request
ended_more : (e : Entry) (newer : List Entry) (key : Key) → list_any (ends key) (newer ++ e ∷ []) ≡
    (list_any (ends key) newer || (ends key e || false))
ended_more e newer key = list_any-append (ends key) newer (e ∷ [])

ticks_more : (e : Entry) (newer : List Entry) → ticks (newer ++ e ∷ []) ≡ ticks newer + ticks (e ∷ [])
ticks_more e newer =
    rw (filter-append is_tick newer (e ∷ [])) (length-append (filter is_tick newer) (filter is_tick (e ∷ [])))

-- a tick more
left_tick : (period : ℕ) (a : Asking) (ended : Bool) (t : ℕ) →
    option_to_list (left_by period a (ended || false) (t + 1)) ≡ aged (option_to_list (left_by period a ended t))
left_tick period a true t = refl
left_tick period a false t =
    elim (cases_lt (t + 1) period) [
      | inl lt ↦
          rw (lt-ltb (t + 1) period lt, lt-ltb t period (omega arith), lt-ltb 0 (period - t - 1) (omega arith))
          (ap (λ (n : ℕ). record { key = a.key; peer = a.peer; version = a.version; left = n } ∷ []) (omega arith))
      | inr le ↦
          elim (cases_lt t period) [
            | inl lt ↦ rw (le-ltb (t + 1) period le, lt-ltb t period lt, le-ltb 0 (period - t - 1) (omega arith)) refl
            | inr ge ↦ rw (le-ltb (t + 1) period le, le-ltb t period ge) refl
          ]
    ]

-- two keys are the same both ways round
same_key_comm : (a b : Key) → same_key a b ≡ same_key b a
same_key_comm a b =
    rw (
      nat_eq_equiv.symm a.initiator b.initiator,
      nat_eq_equiv.symm a.target b.target,
      nat_eq_equiv.symm a.number b.number,
    ) refl

-- one that is ended, or not
left_ended : (period : ℕ) (a : Asking) (key : Key) (ended : Bool) (t : ℕ) →
    option_to_list (left_by period a (ended || (same_key key a.key || false)) t) ≡ forget key
    (option_to_list (left_by period a ended t))
left_ended period a key true t = refl
left_ended period a key false t = rw (same_key_comm key a.key) (by (same_key a.key key) refl (nat_lt t period))
  where
    by : (same : Bool) → same_key a.key key ≡ same → (waits : Bool) →
        option_to_list
        (cond (same || false) None
        (cond waits (Some (record { key = a.key; peer = a.peer; version = a.version; left = period - t })) None)) ≡
        forget key
        (option_to_list (cond waits
        (Some (record { key = a.key; peer = a.peer; version = a.version; left = period - t })) None))
    by true is true = rw is refl
    by true is false = refl
    by false is true = rw is refl
    by false is false = refl

-- ---- all requests

-- a change of a list of requests that changes each by itself
record IsOfEach (change : List Request → List Request) : Type 0 where
  empty : change [] ≡ []
  parts : (xs ys : List Request) → change (xs ++ ys) ≡ change xs ++ change ys

-- an entry changes what each request leaves so
abbrev ChangesEach : ℕ → Entry → (List Request → List Request) → Type 0
ChangesEach period e change =
    (newer : List Entry) (a : Asking) → option_to_list (left_of period (newer ++ e ∷ []) a) ≡ change
    (option_to_list (left_of period newer a))

module _ (period : ℕ) (e : Entry) (change : List Request → List Request) (of_each : IsOfEach change)
    (changes : ChangesEach period e change) where
  one_then : (newer : List Entry) (asked : Option Asking) →
      option_to_list (option_and_then (left_of period (newer ++ e ∷ [])) asked) ≡ change
      (option_to_list (option_and_then (left_of period newer) asked))
  one_then newer None = sym of_each.empty
  one_then newer (Some a) = changes newer a

  since_then : (newer h : List Entry) → waiting_since period (newer ++ e ∷ []) h ≡ change (waiting_since period newer h)
  since_then newer [] = sym of_each.empty
  since_then newer (x ∷ before) =
      rw (since_then (x ∷ newer) before, one_then newer (asked_in x.call x.reply))
      (sym (of_each.parts (waiting_since period (x ∷ newer) before)
      (option_to_list (option_and_then (left_of period newer) (asked_in x.call x.reply)))))

-- what waits after one more entry: what waited, changed, and what the entry itself was asked for
waiting_then : (o : Setting) (e : Entry) (change : List Request → List Request) → IsOfEach change →
    ChangesEach o.period e change → (h : List Entry)
    → waiting o (e ∷ h) ≡ change (waiting o h) ++ option_to_list
    (option_and_then (left_of o.period []) (asked_in e.call e.reply))
waiting_then o e change of_each changes h =
    ap (λ ws. ws ++ option_to_list (option_and_then (left_of o.period []) (asked_in e.call e.reply)))
    (since_then o.period e change of_each changes [] h)

aged_each : IsOfEach aged
aged_each = record {
  empty = refl;
  parts = λ xs ys. rw (map-append one_less xs ys)
      (filter-append (λ request. nat_lt 0 request.left) (map one_less xs) (map one_less ys));
}

forget_each : (key : Key) → IsOfEach (forget key)
forget_each key = record { empty = refl; parts = filter-append (λ request. not (same_key request.key key)) }

same_each : IsOfEach (λ requests. requests)
same_each = record { empty = refl; parts = λ xs ys. refl }

-- ---- the entries

-- a tick is neither asked for a ping nor sends one on
record IsIdle (call : Call) (reply : Reply) : Type 0 where
  asked : asked_in call reply ≡ None
  sent : sent_on_in call reply ≡ None

ticking_idle : (call : Call) (reply : Reply) → is_ticking call reply ≡ true → IsIdle call reply
ticking_idle Tick reply ticking = record { asked = refl; sent = refl }
ticking_idle (Hear source m) reply ticking = absurd cc
ticking_idle (Join id peer) reply ticking = absurd cc
ticking_idle (Remove id) reply ticking = absurd cc

tick_each : (period : ℕ) (e : Entry) → is_tick e ≡ true → ChangesEach period e aged
tick_each period e ticking newer a =
    rw (ended_more e newer a.key, (ticking_idle e.call e.reply ticking).sent, ticks_more e newer, ticking)
    (left_tick period a (list_any (ends a.key) newer) (ticks newer))

sent_each : (period : ℕ) (e : Entry) (key : Key) → is_tick e ≡ false → sent_on_in e.call e.reply ≡ Some key →
    ChangesEach period e (forget key)
sent_each period e key idle sent newer a =
    rw (ended_more e newer a.key, sent, ticks_more e newer, idle, add-zero (ticks newer))
    (left_ended period a key (list_any (ends a.key) newer) (ticks newer))

idle_each : (period : ℕ) (e : Entry) → is_tick e ≡ false → sent_on_in e.call e.reply ≡ None →
    ChangesEach period e (λ requests. requests)
idle_each period e idle sent newer a =
    rw (
      ended_more e newer a.key,
      sent,
      ticks_more e newer,
      idle,
      add-zero (ticks newer),
      or-false
          (list_any (ends a.key) newer),
    ) refl

-- ---- the laws

-- a tick ages what waits
pub waiting_tick : (o : Setting) (h : List Entry) (e : Entry) → is_tick e ≡ true →
    waiting o (e ∷ h) ≡ aged (waiting o h)
waiting_tick o h e ticking =
    waiting_then o e aged aged_each (tick_each o.period e ticking) h
    ∙ (rw (ticking_idle e.call e.reply ticking).asked (append-nil (aged (waiting o h))))

-- a request that is passed on waits from then on, in the place of those of its probe
pub waiting_asked : (o : Setting) (h : List Entry) (e : Entry) (m : Message) (source peer : Address) (ping : Message) →
    0 < o.period → e.call ≡ Hear source m → m.kind ≡ PingReq → e.reply ≡ Send peer ping
    → waiting o (e ∷ h) ≡ forget (key_of m) (waiting o h) ++
    record { key = key_of m; peer = source; version = m.version; left = o.period } ∷ []
waiting_asked o h e m source peer ping positive call kind reply =
    waiting_then o e (forget (key_of m)) (forget_each (key_of m))
    (sent_each o.period e (key_of m) (rw call refl) (rw (call, reply, kind) refl)) h
    ∙ (rw (call, reply, kind, lt-ltb 0 o.period positive)
    (ap (λ (n : ℕ). forget (key_of m) (waiting o h) ++
    record { key = key_of m; peer = source; version = m.version; left = n } ∷ [])
    (omega arith)))

-- an ack that is passed on ends what waits for it
pub waiting_answered : (o : Setting) (h : List Entry) (e : Entry) (m : Message) (source peer : Address)
    (ack : Message) → e.call ≡ Hear source m → m.kind ≡ Ack → e.reply ≡ Send peer ack
    → waiting o (e ∷ h) ≡ forget (key_of m) (waiting o h)
waiting_answered o h e m source peer ack call kind reply =
    waiting_then o e (forget (key_of m)) (forget_each (key_of m))
    (sent_each o.period e (key_of m) (rw call refl) (rw (call, reply, kind) refl)) h
    ∙ (rw (call, reply, kind) (append-nil (forget (key_of m) (waiting o h))))

-- any other entry leaves what waits
pub waiting_same : (o : Setting) (h : List Entry) (e : Entry) → is_tick e ≡ false → asked_in e.call e.reply ≡ None →
    sent_on_in e.call e.reply ≡ None → waiting o (e ∷ h) ≡ waiting o h
waiting_same o h e idle asked sent =
    waiting_then o e (λ requests. requests) same_each (idle_each o.period e idle sent) h
    ∙ (rw asked (append-nil (waiting o h)))
