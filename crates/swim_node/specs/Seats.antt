-- A node's callers: its four seats, and what each was answered.
use Rattle.std.specs.Prelude.{◌≡◌, ℕ, List, [], ◌∷◌, map}
use Rattle.std.specs.List.{AllByRecursion}
use Rattle.swim_history.specs.declared.seats.Kept.{Kept}

-- what contracts see of a seat: its number, its answered calls, oldest first, and how many of its calls met a full
-- journal
pub record Seated : Type 0 where
  pub number : ℕ
  pub calls : List Kept
  pub full : ℕ

-- these are the four seats of a node, in order of their numbers
abbrev pub AreTheSeats : List Seated → Type 0
AreTheSeats seats = map (λ seat. seat.number) seats ≡ 0 ∷ 1 ∷ 2 ∷ 3 ∷ []

-- and nobody has called yet
abbrev pub AreNew : List Seated → Type 0
AreNew seats = AreTheSeats seats × AllByRecursion (λ seat. (seat.calls ≡ []) × (seat.full ≡ 0)) seats
