-- For how many periods a member is failed.
use Rattle.std.specs.Prelude.{ℕ, ◌-◌, ◌==◌, List, Option, Some, None, find, option_map}
use Rattle.swim_history.specs.declared.rows.Row.{Row}
use Rattle.swim_history.specs.declared.rows.RowState.{RowState}
use Rattle.swim_history.specs.declared.rows.RowState.TheVariants.{Up, Failed}
use Rattle.swim_events.specs.Watching.{Known}

-- since the period at whose end it was judged, in that of this number
abbrev pub periods_since : ℕ → Option RowState → Option ℕ
periods_since number None = None
periods_since number (Some Up) = None
periods_since number (Some (Failed since)) = Some (number - since)

-- the state of the member with this id, if it is known
abbrev pub state_in : ℕ → List Row → Option RowState
state_in member rows = option_map (λ row. row.state) (find (λ row. row.id == member) rows)

abbrev pub failed_for : ℕ → Known → Option ℕ
failed_for member k = periods_since k.number (state_in member k.rows)
