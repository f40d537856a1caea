-- Words on the lists of a round.
use Rattle.std.specs.Prelude.{◌≡◌, ℕ, ◌≤◌, false, List, length, Option}
use Rattle.std.specs.Option.{option_map}
use Rattle.arrayvec.specs.ArrayVec.{ArrayVec}
use Rattle.swim_wire.specs.Ids.{most_members, has_twice}
use Rattle.swim_wire.specs.Round.{Lists, all_of}

-- the ids of the order that was drawn, if any was
abbrev pub drawn_of : Option (ArrayVec ℕ) → Option (List ℕ)
drawn_of drawn = option_map (λ order. order.items) drawn

-- no member is listed twice, and no more are listed than may be known
pub record IsListing (lists : Lists) : Type 0 where
  pub once : has_twice (all_of lists) ≡ false
  pub bound : length (all_of lists) ≤ most_members

-- the same of members in one list, of which the first so many were probed
pub record IsKept (members : List ℕ) (probed : ℕ) : Type 0 where
  pub once : has_twice members ≡ false
  pub bound : length members ≤ most_members
  pub within : probed ≤ length members
