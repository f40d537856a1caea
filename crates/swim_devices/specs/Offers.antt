-- What became of bytes that were offered to who watches.
use Rattle.std.specs.Prelude.{ℕ, ◌≤◌, List, [], take}
use Rattle.swim_events.specs.declared.outlets.Offer.{Offer}
use Rattle.swim_events.specs.declared.outlets.Offer.TheVariants.{Took, Full, Gone}
use Rattle.swim_events.specs.Guests.{Offering}

-- what a contract sees of an outlet: the bytes that it took so far, and all that was offered to it, oldest first
pub record AtOutlet : Type 0 where
  pub taken : List ℕ
  pub offers : List Offering

-- the bytes that were taken of those that were offered
abbrev pub taken_of : Offer → List ℕ → List ℕ
taken_of (Took count) bytes = take count bytes
taken_of Full bytes = []
taken_of Gone bytes = []

-- the same of an offer that was noted
abbrev pub taken_in : Offering → List ℕ
taken_in i = taken_of i.0 i.1

-- no more were taken than so many
abbrev pub IsWithin : Offer → ℕ → Type 0
IsWithin (Took count) most = count ≤ most
IsWithin Full most = Unit {0}
IsWithin Gone most = Unit {0}
