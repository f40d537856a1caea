-- Where a member's row stands among rows that ascend by id, or where it would.
use Rattle.std.specs.Prelude.{◌≡◌, ℕ, ◌<◌, ◌≤◌, List, length, slice_index_or}
use Rattle.swim_history.specs.declared.rows.Row.{Row}

-- the row at the place is that member's
pub record IsAt (rows : List Row) (id place : ℕ) : Type 0 where
  pub in_range : place < length rows
  pub has_id : (d : Row) → (slice_index_or rows place d).id ≡ id

-- the row would stand there: lower ids before the place, and higher ids from it on
pub record IsGapFor (rows : List Row) (id place : ℕ) : Type 0 where
  pub in_range : place ≤ length rows
  pub lower_before : (k : ℕ) (d : Row) → k < place → (slice_index_or rows k d).id < id
  pub higher_after : (k : ℕ) (d : Row) → place ≤ k → k < length rows → id < (slice_index_or rows k d).id
