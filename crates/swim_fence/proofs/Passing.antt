-- How many datagrams of an address, and of strangers, pass within a span of a fence's history.
use Rattle.std.proofs.Common.{◌≡◌, ℕ, ◌+◌, ◌-◌, ◌*◌, ◌<◌, ◌≤◌, Bool, true, false, not, cond, ◌&&◌, ◌||◌, nat_eq, List}
use Rattle.std.proofs.Common.{[], ◌∷◌, ◌++◌, refl, sym, ◌∙◌, ap, subst, arith}
use Rattle.std.proofs.lemmas.List.Elements.{All-cons, All-nil}
use Rattle.swim_wire.specs.Address.{Address}
use Rattle.swim_fence.specs.Buckets.{passed, passes_after, price}
use Rattle.swim_fence.specs.Histories.{AreAskedWithin, Event, StaysListed, is_listed, is_same, own_times}
use Rattle.swim_fence.specs.Histories.{passed_of_member, passed_of_strangers, passes, strange_times, times_of}
use Rattle.swim_fence.specs.Histories.Event.{Asked, Listed}
use Rattle.swim_fence.proofs.Same.{one_address}
use Rattle.swim_fence.proofs.Spans.{Within, passed_within}

-- with a rate each datagram asks its bucket
passes_at_rate : (rate : ℕ) (h : List Event) (from : Address) (now : ℕ) (times : List ℕ) → 0 < rate →
    times_of from h ≡ times → passes rate h from now ≡ passes_after rate times now
passes_at_rate rate h from now times positive same =
    let some : nat_eq rate 0 ≡ false = grind arith in
    ap (λ b. b || passes_after rate (times_of from h) now) some ∙ ap (λ t. passes_after rate t now) same

-- when a member's datagrams asked in a part of a history
asks_of : Address → List Event → List ℕ
asks_of a [] = []
asks_of a (Asked from now ∷ recent) = cond (is_same a from) (now ∷ asks_of a recent) (asks_of a recent)
asks_of a (Listed members ∷ recent) = asks_of a recent

listed_along : (a : Address) (recent before : List Event) → StaysListed a recent before →
    is_listed a (recent ++ before) ≡ true
listed_along a [] before stays = stays
listed_along a (Asked from now ∷ recent) before stays = listed_along a recent before stays
listed_along a (Listed members ∷ recent) before stays = stays.0

own_times_along : (a : Address) (recent before : List Event) → StaysListed a recent before →
    own_times a (recent ++ before) ≡ asks_of a recent ++ own_times a before
unfolding asks_of
own_times_along a [] before stays = refl
own_times_along a (Asked from now ∷ recent) before stays =
    by_test (own_times_along a recent before stays) (is_same a from) where
      by_test : own_times a (recent ++ before) ≡ asks_of a recent ++ own_times a before → (own : Bool) →
          cond own (now ∷ own_times a (recent ++ before)) (own_times a (recent ++ before)) ≡
          cond own (now ∷ asks_of a recent) (asks_of a recent) ++ own_times a before
      by_test same true = ap (λ times. now ∷ times) same
      by_test same false = same
own_times_along a (Listed members ∷ recent) before stays =
    ap (λ b. cond b (own_times a (recent ++ before)) []) (listed_along a recent before stays.1) ∙
    own_times_along a recent before stays.1

passed_along : (rate : ℕ) (a : Address) (recent before : List Event) → 0 < rate → StaysListed a recent before →
    passed_of_member a rate recent before ≡ passed rate (asks_of a recent) (own_times a before)
unfolding asks_of
passed_along rate a [] before positive stays = refl
passed_along rate a (Asked from now ∷ recent) before positive stays =
    by_test (passed_along rate a recent before positive stays) (is_same a from) refl where
      by_test : passed_of_member a rate recent before ≡ passed rate (asks_of a recent) (own_times a before) →
          (own : Bool) →
          is_same a from ≡ own →
          cond (own && passes rate (recent ++ before) from now) 1 0 + passed_of_member a rate recent before
          ≡ passed rate (cond own (now ∷ asks_of a recent) (asks_of a recent)) (own_times a before)
      by_test same true e =
          let one = one_address a from e in
          let times : times_of from (recent ++ before) ≡ asks_of a recent ++ own_times a before =
          ap (λ q. times_of q (recent ++ before)) (sym one)
          ∙ ap (λ b. cond b (own_times a (recent ++ before)) (strange_times (recent ++ before)))
          (listed_along a recent before stays)
          ∙ own_times_along a recent before stays in
          ap (λ b. cond b 1 0 + passed_of_member a rate recent before)
          (passes_at_rate rate (recent ++ before) from now (asks_of a recent ++ own_times a before) positive times)
          ∙ ap (λ n. cond (passes_after rate (asks_of a recent ++ own_times a before) now) 1 0 + n) same
      by_test same false e = omega (arith, same)
passed_along rate a (Listed members ∷ recent) before positive stays = passed_along rate a recent before positive stays.1

asks_within : (a : Address) (recent : List Event) (start end : ℕ) → AreAskedWithin start end recent →
    Within start end (asks_of a recent)
unfolding asks_of
asks_within a [] start end h = All-nil (λ now. (start ≤ now) × (now ≤ end))
asks_within a (Asked from now ∷ recent) start end h =
    by_test (asks_within a recent start end h.2) (is_same a from) where
      by_test : Within start end (asks_of a recent) → (own : Bool) →
          Within start end (cond own (now ∷ asks_of a recent) (asks_of a recent))
      by_test all true = All-cons (λ n. (start ≤ n) × (n ≤ end)) now (asks_of a recent) (h.0, h.1) all
      by_test all false = all
asks_within a (Listed members ∷ recent) start end h = asks_within a recent start end h

-- of a member's datagrams so many pass
pub member_within : (rate start end : ℕ) (a : Address) (recent before : List Event) → 0 < rate →
    StaysListed a recent before → AreAskedWithin start end recent →
    passed_of_member a rate recent before * price ≤ rate * price + rate * (end - start)
member_within rate start end a recent before positive stays within =
    let P : ℕ → Type 0 = λ n. n * price ≤ rate * price + rate * (end - start) in
    subst P (sym (passed_along rate a recent before positive stays))
    (passed_within rate (asks_of a recent) (own_times a before) start end (asks_within a recent start end within))

-- when strangers' datagrams asked in a part of a history
strange_of : List Event → List Event → List ℕ
strange_of [] before = []
strange_of (Asked from now ∷ recent) before =
    cond (is_listed from (recent ++ before)) (strange_of recent before) (now ∷ strange_of recent before)
strange_of (Listed members ∷ recent) before = strange_of recent before

strange_times_along : (recent before : List Event) →
    strange_times (recent ++ before) ≡ strange_of recent before ++ strange_times before
unfolding strange_of
strange_times_along [] before = refl
strange_times_along (Asked from now ∷ recent) before =
    by_test (strange_times_along recent before) (is_listed from (recent ++ before)) where
      by_test : strange_times (recent ++ before) ≡ strange_of recent before ++ strange_times before → (listed : Bool) →
          cond listed (strange_times (recent ++ before)) (now ∷ strange_times (recent ++ before)) ≡
          cond listed (strange_of recent before) (now ∷ strange_of recent before) ++ strange_times before
      by_test same true = same
      by_test same false = ap (λ times. now ∷ times) same
strange_times_along (Listed members ∷ recent) before = strange_times_along recent before

passed_strange : (rate : ℕ) (recent before : List Event) → 0 < rate →
    passed_of_strangers rate recent before ≡ passed rate (strange_of recent before) (strange_times before)
unfolding strange_of
passed_strange rate [] before positive = refl
passed_strange rate (Asked from now ∷ recent) before positive =
    by_test (passed_strange rate recent before positive) (is_listed from (recent ++ before)) refl where
      by_test : passed_of_strangers rate recent before ≡ passed rate (strange_of recent before) (strange_times before) →
          (listed : Bool) → is_listed from (recent ++ before) ≡ listed →
          cond (not listed && passes rate (recent ++ before) from now) 1 0 + passed_of_strangers rate recent before
          ≡ passed rate (cond listed (strange_of recent before) (now ∷ strange_of recent before)) (strange_times before)
      by_test same true e = omega (arith, same)
      by_test same false e =
          let times : times_of from (recent ++ before) ≡ strange_of recent before ++ strange_times before =
          ap (λ b. cond b (own_times from (recent ++ before)) (strange_times (recent ++ before))) e ∙
          strange_times_along recent before in
          ap (λ b. cond b 1 0 + passed_of_strangers rate recent before)
          (passes_at_rate rate (recent ++ before) from now (strange_of recent before ++ strange_times before) positive
          times)
          ∙ ap (λ n. cond (passes_after rate (strange_of recent before ++ strange_times before) now) 1 0 + n) same
passed_strange rate (Listed members ∷ recent) before positive = passed_strange rate recent before positive

strange_within : (recent before : List Event) (start end : ℕ) → AreAskedWithin start end recent →
    Within start end (strange_of recent before)
unfolding strange_of
strange_within [] before start end h = All-nil (λ now. (start ≤ now) × (now ≤ end))
strange_within (Asked from now ∷ recent) before start end h =
    by_test (strange_within recent before start end h.2) (is_listed from (recent ++ before)) where
      by_test : Within start end (strange_of recent before) → (listed : Bool) →
          Within start end (cond listed (strange_of recent before) (now ∷ strange_of recent before))
      by_test all true = all
      by_test all false = All-cons (λ n. (start ≤ n) × (n ≤ end)) now (strange_of recent before) (h.0, h.1) all
strange_within (Listed members ∷ recent) before start end h = strange_within recent before start end h

-- of all strangers' datagrams together so many pass
pub strangers_within : (rate start end : ℕ) (recent before : List Event) → 0 < rate → AreAskedWithin start end recent →
    passed_of_strangers rate recent before * price ≤ rate * price + rate * (end - start)
strangers_within rate start end recent before positive within =
    let P : ℕ → Type 0 = λ n. n * price ≤ rate * price + rate * (end - start) in
    subst P (sym (passed_strange rate recent before positive))
    (passed_within rate (strange_of recent before) (strange_times before) start end
    (strange_within recent before start end within))
