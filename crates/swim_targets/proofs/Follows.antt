-- The order that ids are put into, if it is one of them.
use Rattle.std.specs.Prelude.{◌≡◌, ℕ, ◌<◌, Bool, true, false, List, length, map, drop, slice_get, Some, IsPermutation}
use Rattle.std.proofs.Common.{cond, refl, get_or}
use Rattle.std.proofs.lemmas.List.{drop_more}
use Rattle.arrayvec.specs.ArrayVec.{ArrayVec}
use Rattle.std.proofs.lemmas.List.Sorted.{IsPermutation-refl}
use Rattle.swim_targets.specs.Script.{is_order_of}
use Rattle.swim_targets.specs.Orders.{order_is, order_found}

pub is_reordered : (ids order : List ℕ) → IsPermutation ids (cond (is_order_of ids order) order ids)
is_reordered ids order = by (is_order_of ids order) refl where
  by : (b : Bool) → is_order_of ids order ≡ b → IsPermutation ids (cond b order ids)
  by true e = order_is ids order e
  by false e = IsPermutation-refl ids

pub is_followed : (ids order : List ℕ) → IsPermutation ids order → cond (is_order_of ids order) order ids ≡ order
is_followed ids order p = rw (order_found ids order p) refl

pub is_left : (ids order : List ℕ) → ¬ IsPermutation ids order → cond (is_order_of ids order) order ids ≡ ids
is_left ids order other = by (is_order_of ids order) refl where
  by : (b : Bool) → is_order_of ids order ≡ b → cond b order ids ≡ ids
  by true e = absurd (other (order_is ids order e))
  by false e = refl

-- the next order is the first of those to come
pub is_first : (orders : List (ArrayVec ℕ)) (used : ℕ) (next : ArrayVec ℕ) (order : List ℕ) → used < length orders →
    next ≡ get_or orders used next
    → slice_get (map (λ o. o.items) (drop used orders)) 0 ≡ Some order → order ≡ next.items
is_first orders used next order lt here first =
    let head : slice_get (map (λ o. o.items) (drop used orders)) 0 ≡ Some next.items =
    rw (drop_more orders used next lt, ← here) refl in
    cc
