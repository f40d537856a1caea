-- The lines of events, and of a table.
use Rattle.std.specs.Prelude.{ℕ, List, [], ◌∷◌, ◌++◌, map, codes, decimal}
use Rattle.std.specs.List.{concat}
use Rattle.swim_wire.specs.Address.{Address, address_text}
use Rattle.swim_history.specs.Texts.{feed}
use Rattle.swim_history.specs.declared.rows.Row.{Row}
use Rattle.swim_history.specs.declared.rows.RowState.{RowState}
use Rattle.swim_history.specs.declared.rows.RowState.TheVariants as states
use Rattle.swim_history.specs.declared.rows.Change.{Change}
use Rattle.swim_history.specs.declared.rows.Change.TheVariants.{Up, Failed, Gone}
use Rattle.swim_events.specs.declared.events.Event.{Event}
use Rattle.swim_events.specs.declared.events.Event.TheVariants.{Changed, Life, Lost, Ended}

-- the line of a change
abbrev pub change_text : Change → List ℕ
change_text (Up id peer) = codes "up " ++ (decimal id ++ (codes " " ++ (address_text peer ++ feed)))
change_text (Failed id number) = codes "failed " ++ (decimal id ++ (codes " " ++ (decimal number ++ feed)))
change_text (Gone id) = codes "gone " ++ (decimal id ++ feed)

-- the lines of changes, the first of them first
abbrev pub changes_text : List Change → List ℕ
changes_text changes = concat (map change_text changes)

-- the change by which a member stands so
abbrev pub shown_as : ℕ → Address → RowState → Change
shown_as id peer states.Up = Up id peer
shown_as id peer (states.Failed number) = Failed id number

abbrev pub shown : Row → Change
shown row = shown_as row.id row.peer row.state

-- the line of a row
abbrev pub row_text : Row → List ℕ
row_text row = change_text (shown row)

abbrev pub rows_text : List Row → List ℕ
rows_text [] = []
rows_text (row ∷ rows) = row_text row ++ rows_text rows

-- the lines of a table: one for each row, and a dot
abbrev pub table_text : List Row → List ℕ
table_text rows = rows_text rows ++ codes ".\n"

-- the line by which a life begins
abbrev pub life_text : ℕ → List ℕ
life_text number = codes "life " ++ (decimal number ++ feed)

-- the last line of a watcher who didn't keep up
abbrev pub lost_text : List ℕ
lost_text = codes "lost\n"

-- the last line of all others
abbrev pub ended_text : List ℕ
ended_text = codes "ended\n"

-- the line of an event
abbrev pub event_text : Event → List ℕ
event_text (Changed change) = change_text change
event_text (Life number) = life_text number
event_text Lost = lost_text
event_text Ended = ended_text
