-- How often an id stands on a list, and which lists are orders of one another.
use Rattle.std.specs.Prelude.{◌≡◌, ℕ, ◌+◌, ◌<◌, Bool, true, false, ◌||◌, List, [], ◌∷◌, IsPermutation}
use Rattle.std.proofs.Common.{cond, eqb, refl, sym, ◌∙◌, arith}
use Rattle.std.proofs.lemmas.Bool.{and_parts, and_from, eqb-true, eqb-false, eq-eqb, ne_eqb}
use Rattle.std.proofs.lemmas.List.Recursion.{is_sum_by}
use Rattle.std.proofs.lemmas.List.Sorted.{sum_by-IsPermutation, IsPermutation-refl, IsPermutation-sym}
use Rattle.std.proofs.lemmas.List.Sorted.{IsPermutation-trans, IsPermutation-cons, IsPermutation-middle}
use Rattle.swim_wire.specs.Ids.{has}
use Rattle.swim_targets.specs.Script.{less_one, is_order_of}

-- 1 where the two are one id, and else 0
abbrev pub one_if_same : ℕ → ℕ → ℕ
one_if_same id other = cond (eqb id other) 1 0

-- how often the id stands on the list
abbrev pub times : ℕ → List ℕ → ℕ
times id [] = 0
times id (other ∷ ids) = one_if_same id other + times id ids

-- an order of a list has each id as often
pub times-IsPermutation : (id : ℕ) (xs ys : List ℕ) → IsPermutation xs ys → times id ys ≡ times id xs
times-IsPermutation id xs ys p =
    is_sum_by (times id) (one_if_same id) refl (λ x zs. refl) ys
    ∙ sum_by-IsPermutation (one_if_same id) xs ys p
    ∙ sym (is_sum_by (times id) (one_if_same id) refl (λ x zs. refl) xs)

pub has_from_times : (id : ℕ) (ids : List ℕ) → 0 < times id ids → has ids id ≡ true
has_from_times id [] h = absurd (omega arith)
has_from_times id (x ∷ ids) h = by (eqb id x) h (has_from_times id ids) where
  by : (b : Bool) → 0 < cond b 1 0 + times id ids → (0 < times id ids → has ids id ≡ true) → (b || has ids id) ≡ true
  by true h again = refl
  by false h again = again (omega arith)

-- ---- orders

eqb_comm : (a b : ℕ) → eqb a b ≡ eqb b a
eqb_comm a b = by (eqb b a) refl where
  by : (c : Bool) → eqb b a ≡ c → eqb a b ≡ c
  by true e = eq-eqb a b (sym (eqb-true b a e))
  by false e = ne_eqb a b (λ same. eqb-false b a e (sym same))

-- an id taken out and put in front is the list in another order
front_again : (id : ℕ) (ids : List ℕ) → has ids id ≡ true → IsPermutation ids (id ∷ less_one id ids)
front_again id [] h = absurd cc
front_again id (x ∷ ids) h = by (eqb x id) refl (front_again id ids) where
  by : (b : Bool) → eqb x id ≡ b → (has ids id ≡ true → IsPermutation ids (id ∷ less_one id ids)) →
      IsPermutation (x ∷ ids) (id ∷ cond b ids (x ∷ less_one id ids))
  by true e again = rw (eqb-true x id e) (IsPermutation-refl (id ∷ ids))
  by false e again =
      let elsewhere : has ids id ≡ true = rw (eqb_comm id x, e) at h in
      IsPermutation-trans (x ∷ ids) (x ∷ id ∷ less_one id ids) (id ∷ x ∷ less_one id ids)
      (IsPermutation-cons x ids (id ∷ less_one id ids) (again elsewhere))
      (IsPermutation-middle (x ∷ []) id (less_one id ids))

times-less_one : (q id : ℕ) (ids : List ℕ) → has ids id ≡ true → one_if_same q id + times q (less_one id ids) ≡
    times q ids
times-less_one q id [] h = absurd cc
times-less_one q id (x ∷ ids) h = by (eqb x id) refl (times-less_one q id ids) where
  by : (b : Bool) → eqb x id ≡ b → (has ids id ≡ true → one_if_same q id + times q (less_one id ids) ≡ times q ids)
      → one_if_same q id + times q (cond b ids (x ∷ less_one id ids)) ≡ one_if_same q x + times q ids
  by true e again = rw (eqb-true x id e) refl
  by false e again =
      let elsewhere : has ids id ≡ true = rw (eqb_comm id x, e) at h in
      omega (arith, again elsewhere)

-- what the test finds to be an order is one,
pub order_is : (ids order : List ℕ) → is_order_of ids order ≡ true → IsPermutation ids order
order_is [] [] e = IsPermutation-refl []
order_is [] (id ∷ order) e = absurd cc
order_is (id ∷ ids) order e =
    let parts = and_parts (has order id) (is_order_of ids (less_one id order)) e in
    IsPermutation-trans (id ∷ ids) (id ∷ less_one id order) order
    (IsPermutation-cons id ids (less_one id order) (order_is ids (less_one id order) parts.1))
    (IsPermutation-sym order (id ∷ less_one id order) (front_again id order parts.0))

found : (ids order : List ℕ) → ((id : ℕ) → times id ids ≡ times id order) → is_order_of ids order ≡ true
found [] [] same = refl
found [] (id ∷ order) same =
    let here : one_if_same id id ≡ 1 = rw (eq-eqb id id refl) refl in
    absurd (omega (arith, here, same id))
found (id ∷ ids) order same =
    let here : one_if_same id id ≡ 1 = rw (eq-eqb id id refl) refl in
    let listed = has_from_times id order (omega (arith, here, same id)) in
    and_from (has order id) (is_order_of ids (less_one id order)) listed
    (found ids (less_one id order) (λ q. omega (arith, same q, times-less_one q id order listed)))

-- and the test finds each order
pub order_found : (ids order : List ℕ) → IsPermutation ids order → is_order_of ids order ≡ true
order_found ids order p = found ids order (λ id. sym (times-IsPermutation id ids order p))
