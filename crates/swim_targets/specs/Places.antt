-- Where an id stands on a list.
use Rattle.std.specs.Prelude.{◌≡◌, ℕ, ◌<◌, false, List, length, take, slice_index}
use Rattle.swim_wire.specs.Ids.{has}

-- the first place of an id
pub record IsFirstAt (ids : List ℕ) (id place : ℕ) : Type 0 where
  pub listed : place < length ids
  pub here : slice_index ids place ≡ id
  pub first : has (take place ids) id ≡ false
