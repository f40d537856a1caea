-- What a scripted chooser chooses: what was written down for it, in turn.
use Rattle.std.specs.Prelude.{◌≡◌, ℕ, Bool, true, false, ◌&&◌, ◌==◌, min, List, [], ◌∷◌, drop, if◌then◌else◌}
use Rattle.swim_wire.specs.Ids.{has}

-- the orders and the places to come
pub record Script : Type 0 where
  pub orders : List (List ℕ)
  pub places : List ℕ

-- the list without the first such id
abbrev pub less_one : ℕ → List ℕ → List ℕ
less_one id [] = []
less_one id (other ∷ ids) = if other == id then ids else other ∷ less_one id ids

-- the second list is an order of the first: each of the first, in turn, is taken out of it, and none is left
abbrev pub is_order_of : List ℕ → List ℕ → Bool
is_order_of [] [] = true
is_order_of [] (id ∷ order) = false
is_order_of (id ∷ ids) order = has order id && is_order_of ids (less_one id order)

-- the next order, if it is one of these ids, and else the ids as they are
abbrev pub order_by : List (List ℕ) → List ℕ → List ℕ
order_by [] ids = ids
order_by (order ∷ orders) ids = if is_order_of ids order then order else ids

-- the next place, if there is one, but no later than the last
abbrev pub place_by : List ℕ → ℕ → ℕ
place_by [] last = last
place_by (place ∷ places) last = min place last

-- the next order is taken off, and followed
abbrev pub FollowsOrder : Script → List ℕ → List ℕ → Script → Type 0
FollowsOrder before ids order after =
    (order ≡ order_by before.orders ids) × (after ≡ record before { orders = drop 1 before.orders })

-- the next place is taken off, and followed
abbrev pub FollowsPlace : Script → ℕ → ℕ → Script → Type 0
FollowsPlace before last place after =
    (place ≡ place_by before.places last) × (after ≡ record before { places = drop 1 before.places })
