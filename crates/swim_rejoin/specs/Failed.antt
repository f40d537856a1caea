-- Rows of failed members.
use Rattle.std.specs.Prelude.{ℕ, Bool, List, Option, Some, None, is_some, option_and_then}
use Rattle.swim_history.specs.Rows.{row_at}
use Rattle.swim_history.specs.declared.rows.Row.{Row}
use Rattle.swim_history.specs.declared.rows.RowState.{RowState}
use Rattle.swim_history.specs.declared.rows.RowState.TheVariants.{Up, Failed}

-- the number of the period at whose end the member was judged, if a verdict stands on it
abbrev pub verdict_of : RowState → Option ℕ
verdict_of Up = None
verdict_of (Failed number) = Some number

abbrev pub is_failed : Row → Bool
is_failed row = is_some (verdict_of row.state)

-- the verdict that stands on a member by a table
abbrev pub verdict_in : List Row → ℕ → Option ℕ
verdict_in rows id = option_and_then (λ row. verdict_of row.state) (row_at rows id)
