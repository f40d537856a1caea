-- What readers are shown: a member table, and the changes that it shows.
use Rattle.std.specs.Prelude.{◌≡◌, List, Option, Some, None}
use Rattle.logbook.specs.Pages.{Book}
use Rattle.swim_history.specs.declared.rows.Row.{Row}
use Rattle.swim_history.specs.declared.rows.Change.{Change}
use Rattle.swim_history.specs.Setting.{Setting}
use Rattle.swim_history.specs.Changes.{table_after}
use Rattle.swim_history.specs.Changing.{changed_within}
use Rattle.swim_node.specs.ChangeLog.{Begun}

pub record Showing : Type 0 where
  pub rows : List Row
  pub shown : Begun

-- the rows after a change, if there is one
abbrev pub rows_then : Option Change → List Row → List Row
rows_then None rows = rows
rows_then (Some change) rows = changed_within change rows

-- what is shown after an update
abbrev pub shown_after : Showing → Option Change → Begun → Showing
shown_after s change shown = record { rows = rows_then change s.rows; shown = shown }

-- the table of the node that began with this opening, after these changes
abbrev pub showing : Setting → Book → List Change → Showing
showing o book changes = record { rows = table_after o changes; shown = record { book = book; changes = changes } }

-- it is the table of that node after the changes that it tells
abbrev pub IsOfNode : Setting → Book → Showing → Type 0
IsOfNode o book s = (s.shown.book ≡ book) × (s.rows ≡ table_after o s.shown.changes)
