use Rattle.std.proofs.Common.{◌≡◌, List, ◌++◌}
use Rattle.swim_history.specs.declared.rows.Row.{Row}
use Rattle.swim_history.specs.Changes.{ascending}
use Rattle.swim_history.proofs.tables.table_of.Given as goal

-- the last rows are in the table, and the others are left
abbrev pub invariant-loop-row : goal.invariant-loop-row
invariant-loop-row l = (last : List Row) × (l.rows ≡ l.row-iterator.iter.rest.now ++ last) ×
    (l.table.items ≡ ascending last)
