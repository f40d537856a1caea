-- What entries do to the member table, and the table after changes.
use Rattle.std.specs.Prelude.{ℕ, ◌<◌, ◌==◌, not, nat_lt, List, [], ◌∷◌, ◌++◌, map, filter, length, Option, Some, None}
use Rattle.std.specs.Prelude.{if◌then◌else◌}
use Rattle.std.specs.List.{AllByRecursion}
use Rattle.std.specs.Option.{option_to_list}
use Rattle.swim_history.specs.declared.rows.Row.{Row}
use Rattle.swim_history.specs.declared.rows.Change.{Change}
use Rattle.swim_history.specs.declared.rows.Change.TheVariants.{Up, Failed, Gone}
use Rattle.swim_history.specs.declared.calls.Call.{Call}
use Rattle.swim_history.specs.declared.calls.Call.TheVariants.{Tick, Join, Remove}
use Rattle.swim_history.specs.declared.replies.Reply.{Reply}
use Rattle.swim_history.specs.declared.replies.Reply.TheVariants.{Started, Joined, Removed}
use Rattle.swim_history.specs.declared.entries.Entry.{Entry}
use Rattle.swim_history.specs.Setting.{Setting}
use Rattle.swim_history.specs.Clock.{period_number}
use Rattle.swim_history.specs.Rows.{up, failed}

-- the change that an entry makes, if any; number is that of the period which it ends, if it ends one
abbrev pub change_by : Call → Reply → ℕ → Option Change
change_by (Join id peer) (Joined place) number = Some (Up id peer)
change_by (Remove id) Removed number = Some (Gone id)
change_by Tick (Started (Some judged) probe) number = Some (Failed judged number)
change_by call reply number = None

-- the changes of a history, oldest first
abbrev pub changes : Setting → List Entry → List Change
changes o [] = []
changes o (e ∷ before) = changes o before ++ option_to_list (change_by e.call e.reply (period_number o before))

-- the rows with one more, ascending by id; it takes the place of a row with its id
abbrev pub put : Row → List Row → List Row
put new [] = new ∷ []
put new (row ∷ rows) =
    if nat_lt new.id row.id then new ∷ row ∷ rows
    else (if new.id == row.id then new ∷ rows else row ∷ put new rows)

-- rows ascending by id
abbrev pub ascending : List Row → List Row
ascending [] = []
ascending (row ∷ rows) = put row (ascending rows)

-- each row's id is below those of the rows after it
abbrev pub IsAscending : List Row → Type 0
IsAscending [] = Unit {0}
IsAscending (row ∷ rows) = AllByRecursion (λ other. row.id < other.id) rows × IsAscending rows

-- the rows after a change
abbrev pub after_change : Change → List Row → List Row
after_change (Up id peer) rows = put (up id peer) rows
after_change (Failed id number) rows = map (λ row. if row.id == id then failed number row else row) rows
after_change (Gone id) rows = filter (λ row. not (row.id == id)) rows

-- the opening's rows after changes, the first of them first, ascending by id
abbrev pub rows_after : List Row → List Change → List Row
rows_after rows [] = rows
rows_after rows (change ∷ changes) = rows_after (after_change change rows) changes

abbrev pub table_after : Setting → List Change → List Row
table_after o changes = rows_after (ascending o.rows) changes

-- the member table of a history
abbrev pub table : Setting → List Entry → List Row
table o h = table_after o (changes o h)

-- how many members are known
abbrev pub known_count : Setting → List Entry → ℕ
known_count o h = length (table o h)
