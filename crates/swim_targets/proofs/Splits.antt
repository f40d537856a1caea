-- A list of ids in two parts, and what an insertion and a removal do to each.
use Rattle.std.specs.Prelude.{◌≡◌, ◌≢◌, ℕ, ◌+◌, ◌-◌, ◌<◌, ◌≤◌, true, false, not, List, [], ◌∷◌, length, take, drop}
use Rattle.std.specs.Prelude.{insert, remove, IsPermutation, zero, suc}
use Rattle.std.specs.List.{refill}
use Rattle.std.proofs.Common.{eqb, ltb, refl, sym, ap, subst, ◌∙◌, arith, add-one, get_or, take-append-drop}
use Rattle.std.proofs.lemmas.Bool.{or_parts, or_from, eq-eqb, eqb-false, ne_eqb, lt-ltb, le-ltb, both_ways}
use Rattle.std.proofs.lemmas.List.{length-take-le, length-drop, take_all, drop_all, take_at}
use Rattle.std.proofs.lemmas.List.Folds.{list_any-append, list_any_at}
use Rattle.std.proofs.lemmas.List.Edits.{length-insert, length-remove}
use Rattle.std.proofs.lemmas.List.Sorted.{IsPermutation-insert, length_permutation}
use Rattle.swim_wire.specs.Ids.{has, has_twice, without}
use Rattle.swim_wire.specs.IdLaws.{once-IsPermutation, once_part}
use Rattle.swim_wire.specs.Round.{Lists, all_of, leave, join_at}
use Rattle.swim_targets.specs.Rounds.{IsKept, IsListing}

-- the list, of which the first c were probed
abbrev pub split : ℕ → List ℕ → Lists
split c ids = record { probed = take c ids; rest = drop c ids }

-- an id that isn't on the list is in neither part
none_of : (id c : ℕ) (ids : List ℕ) → has ids id ≡ false → (has (take c ids) id ≡ false) × (has (drop c ids) id ≡ false)
none_of id c ids h =
    or_parts (has (take c ids) id) (has (drop c ids) id)
    (sym (list_any-append (eqb id) (take c ids) (drop c ids)) ∙ ap (λ xs. has xs id) (take-append-drop c ids) ∙ h)

pub without_none : (id : ℕ) (ids : List ℕ) → has ids id ≡ false → without id ids ≡ ids
without_none id [] h = refl
without_none id (x ∷ ids) h =
    let parts = or_parts (eqb id x) (has ids id) h in
    let other : eqb x id ≡ false = ne_eqb x id (λ same. both_ways (eqb id x) parts.0 (eq-eqb id x (sym same))) in
    rw (other, without_none id ids parts.1) refl

-- the head alone is gone
head_gone : (x id : ℕ) → x ≡ id → (ids : List ℕ) → has ids x ≡ false → without id (x ∷ ids) ≡ ids
head_gone x id same ids none =
    let here : eqb x id ≡ true = eq-eqb x id same in
    rw here (without_none id ids (subst (λ y. has ids y ≡ false) same none))

-- the head stands nowhere else
apart : (x id i : ℕ) (ids : List ℕ) → has ids x ≡ false → i < length ids → get_or ids i 0 ≡ id → eqb x id ≡ false
apart x id i ids none lt here =
    ne_eqb x id (λ same. both_ways (has ids x) none
    (list_any_at (eqb x) ids i 0 lt (eq-eqb x (get_or ids i 0) (same ∙ sym here))))

-- one of those probed is removed
gone_before : (ids : List ℕ) (i c id : ℕ) → i < length ids → get_or ids i 0 ≡ id → has_twice ids ≡ false → i ≤ c
    → (take c (remove ids i) ≡ without id (take (suc c) ids)) × (drop c (remove ids i) ≡ without id (drop (suc c) ids))
gone_before [] i c id lt here once le = absurd (omega arith)
gone_before (x ∷ ids) zero c id lt here once le =
    let none = (or_parts (has ids x) (has_twice ids) once).0 in
    let gone : has ids id ≡ false = subst (λ y. has ids y ≡ false) here none in (
      sym (head_gone x id here (take c ids) (none_of x c ids none).0),
      sym (without_none id (drop c ids) (none_of id c ids gone).1),
    )
gone_before (x ∷ ids) (suc i) zero id lt here once le = absurd (omega arith)
gone_before (x ∷ ids) (suc i) (suc c) id lt here once le =
    let parts = or_parts (has ids x) (has_twice ids) once in
    let again = gone_before ids i c id (omega arith) here parts.1 (omega arith) in
    rw (apart x id i ids parts.0 (omega arith) here) (ap (λ xs. x ∷ xs) again.0, again.1)

-- one of those to be probed is removed
gone_after : (ids : List ℕ) (i c id : ℕ) → i < length ids → get_or ids i 0 ≡ id → has_twice ids ≡ false → c ≤ i
    → (take c (remove ids i) ≡ without id (take c ids)) × (drop c (remove ids i) ≡ without id (drop c ids))
gone_after [] i c id lt here once le = absurd (omega arith)
gone_after (x ∷ ids) zero zero id lt here once le =
    let none = (or_parts (has ids x) (has_twice ids) once).0 in
    (refl, sym (head_gone x id here ids none))
gone_after (x ∷ ids) zero (suc c) id lt here once le = absurd (omega arith)
gone_after (x ∷ ids) (suc i) zero id lt here once le =
    let parts = or_parts (has ids x) (has_twice ids) once in
    let again = gone_after ids i zero id (omega arith) here parts.1 (omega arith) in
    (refl, rw (apart x id i ids parts.0 (omega arith) here) (ap (λ xs. x ∷ xs) again.1))
gone_after (x ∷ ids) (suc i) (suc c) id lt here once le =
    let parts = or_parts (has ids x) (has_twice ids) once in
    let again = gone_after ids i c id (omega arith) here parts.1 (omega arith) in
    rw (apart x id i ids parts.0 (omega arith) here) (ap (λ xs. x ∷ xs) again.0, again.1)

-- one is inserted among those probed
came_before : (ids : List ℕ) (p c id : ℕ) → p ≤ c → c ≤ length ids
    → (take (suc c) (insert ids p id) ≡ insert (take c ids) p id) × (drop (suc c) (insert ids p id) ≡ drop c ids)
came_before ids zero c id le fits = (refl, refl)
came_before ids (suc p) zero id le fits = absurd (omega arith)
came_before [] (suc p) (suc c) id le fits = absurd (omega arith)
came_before (x ∷ ids) (suc p) (suc c) id le fits =
    let again = came_before ids p c id (omega arith) (omega arith) in
    (ap (λ xs. x ∷ xs) again.0, again.1)

-- one is inserted k places behind those probed
came_after : (ids : List ℕ) (p c k id : ℕ) → p ≡ c + k → p ≤ length ids
    → (take c (insert ids p id) ≡ take c ids) × (drop c (insert ids p id) ≡ insert (drop c ids) k id)
came_after ids p zero k id e fits = let same : p ≡ k = omega arith in (refl, rw same refl)
came_after ids zero (suc c) k id e fits = absurd (omega arith)
came_after [] (suc p) (suc c) k id e fits = absurd (omega arith)
came_after (x ∷ ids) (suc p) (suc c) k id e fits =
    let again = came_after ids p c k id (omega arith) (omega arith) in
    (ap (λ xs. x ∷ xs) again.0, again.1)

-- ---- what is kept

once_insert : (ids : List ℕ) (p id : ℕ) → has ids id ≡ false → has_twice ids ≡ false →
    has_twice (insert ids p id) ≡ false
once_insert ids p id none once =
    once-IsPermutation (id ∷ ids) (insert ids p id) (IsPermutation-insert ids p id)
    (or_from (has ids id) (has_twice ids) none once)

once_without : (ids : List ℕ) (id : ℕ) → has_twice ids ≡ false → has_twice (without id ids) ≡ false
once_without ids id once = once_part (λ other. not (eqb other id)) ids once

pub listing : (ids : List ℕ) (c : ℕ) → IsKept ids c → IsListing (split c ids)
listing ids c kept = record
    { once = rw (take-append-drop c ids) kept.once; bound = rw (take-append-drop c ids) kept.bound }

-- those probed and the others together are the list
pub all_split : (ids : List ℕ) (c : ℕ) (lists : Lists) → split c ids ≡ lists → all_of lists ≡ ids
all_split ids c lists e = ap (λ l. all_of l) (sym e) ∙ take-append-drop c ids

pub room_left : (n : ℕ) → n ≤ 128 → eqb n 128 ≡ false → n < 128
room_left n most e = let other = eqb-false n 128 e in omega arith

-- a joiner waits among those probed
pub joins_before : (ids : List ℕ) (p c id : ℕ) → p < c → IsKept ids c → has ids id ≡ false → length ids < 128 →
    IsKept (insert ids p id) (c + 1)
joins_before ids p c id before kept none room = record {
  once = once_insert ids p id none kept.once;
  bound = omega (arith, length-insert ids p id);
  within = omega (arith, length-insert ids p id, kept.within);
}

pub joined_before : (ids : List ℕ) (p c id : ℕ) → p < c → c ≤ length ids →
    split (c + 1) (insert ids p id) ≡ join_at id p (split c ids)
joined_before ids p c id before fits =
    let parts = came_before ids p c id (omega arith) fits in
    let test : ltb p (length (take c ids)) ≡ true =
    lt-ltb p (length (take c ids)) (omega (arith, length-take-le c ids fits)) in
    rw (test, add-one, parts.0, parts.1) refl

-- a joiner is among those to be probed
pub joins_after : (ids : List ℕ) (p c id : ℕ) → p ≤ length ids → IsKept ids c → has ids id ≡ false → length ids < 128 →
    IsKept (insert ids p id) c
joins_after ids p c id fits kept none room = record {
  once = once_insert ids p id none kept.once;
  bound = omega (arith, length-insert ids p id);
  within = omega (arith, length-insert ids p id, kept.within);
}

pub joined_after : (ids : List ℕ) (p c id : ℕ) → c ≤ p → p ≤ length ids →
    split c (insert ids p id) ≡ join_at id p (split c ids)
joined_after ids p c id after fits =
    let size : length (take c ids) ≡ c = length-take-le c ids (omega arith) in
    let parts = came_after ids p c (p - c) id (omega arith) fits in
    let test : ltb p (length (take c ids)) ≡ false = le-ltb p (length (take c ids)) (omega (arith, size)) in
    rw (test, size, parts.0, parts.1) refl

-- one of those probed leaves
pub leaves_before : (ids : List ℕ) (i c id : ℕ) → i < c → IsKept ids c → get_or ids i 0 ≡ id →
    IsKept (remove ids i) (c - 1)
leaves_before ids i c id before kept here =
    let lt : i < length ids = omega (arith, kept.within) in
    let size = length-remove ids i lt in
    record {
      once = rw (gone_after ids i zero id lt here kept.once (omega arith)).1 (once_without ids id kept.once);
      bound = omega (arith, size, kept.bound);
      within = omega (arith, size, kept.within);
    }

pub left_before : (ids : List ℕ) (i c id : ℕ) → i < c → IsKept ids c → get_or ids i 0 ≡ id →
    split (c - 1) (remove ids i) ≡ leave id (split c ids)
left_before ids i zero id before kept here = absurd (omega arith)
left_before ids i (suc c) id before kept here =
    let parts = gone_before ids i c id (omega (arith, kept.within)) here kept.once (omega arith) in
    let same : suc c - 1 ≡ c = omega arith in
    rw (same, parts.0, parts.1) refl

-- one of those to be probed leaves
pub leaves_after : (ids : List ℕ) (i c id : ℕ) → c ≤ i → i < length ids → IsKept ids c → get_or ids i 0 ≡ id →
    IsKept (remove ids i) c
leaves_after ids i c id after lt kept here =
    let size = length-remove ids i lt in
    record {
      once = rw (gone_after ids i zero id lt here kept.once (omega arith)).1 (once_without ids id kept.once);
      bound = omega (arith, size, kept.bound);
      within = omega (arith, size);
    }

pub left_after : (ids : List ℕ) (i c id : ℕ) → c ≤ i → i < length ids → has_twice ids ≡ false → get_or ids i 0 ≡ id →
    split c (remove ids i) ≡ leave id (split c ids)
left_after ids i c id after lt once here =
    let parts = gone_after ids i c id lt here once after in
    rw (parts.0, parts.1) refl

-- one who isn't listed leaves nothing
pub left_none : (ids : List ℕ) (c id : ℕ) → has ids id ≡ false → split c ids ≡ leave id (split c ids)
left_none ids c id none =
    let parts = none_of id c ids none in
    rw (without_none id (take c ids) parts.0, without_none id (drop c ids) parts.1) refl

-- ---- rounds

-- who is to be probed, if fewer were than are listed
pub some_rest : (ids : List ℕ) (c : ℕ) → c < length ids → drop c ids ≢ []
some_rest ids c lt none = omega (arith, length-drop c ids, ap length none)

-- nobody, if all were
pub no_rest : (ids : List ℕ) (c : ℕ) → length ids ≤ c → split c ids ≡ record { probed = ids; rest = [] }
no_rest ids c le = rw (take_all c ids le, drop_all c ids le) refl

-- the members are put into an order, of which none was probed
pub kept_refilled : (ids order : List ℕ) (c : ℕ) → IsKept ids c → IsPermutation ids order →
    IsKept (refill (length ids) ids order) 0
kept_refilled ids order c kept p =
    let size : length order ≡ length ids = length_permutation ids order p in
    rw (take_at order (drop (length order) ids) (length ids) size) (record {
      once = once-IsPermutation ids order p kept.once;
      bound = omega (arith, size, kept.bound);
      within = omega arith;
    })
