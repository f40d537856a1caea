-- A change of a table of at most 128 rows, whatever the change and the table.
use Rattle.std.specs.Prelude.{nat_le, List, length, if◌then◌else◌}
use Rattle.swim_history.specs.declared.rows.Row.{Row}
use Rattle.swim_history.specs.declared.rows.Change.{Change}
use Rattle.swim_history.specs.Changes.{after_change}

-- the rows after a change; where there would be more than 128, the rows as they were
abbrev pub changed_within : Change → List Row → List Row
changed_within change rows = if nat_le (length (after_change change rows)) 128 then after_change change rows else rows
