use Rattle.std.proofs.Common.{reverse}
use Rattle.swim_history.specs.Laws.Table.{table_ascends, table_shows}
use Rattle.swim_history.proofs.journals.Journal.row.Goals as goal

pub find_row-requires : goal.find_row-requires
find_row-requires c =
    let j = c.self.inside in
    rw (c.as_slice.ensures.value, c.self.invariant.3.rows_are) (table_ascends j.opening (reverse j.entries.items))

pub returns-clause-value : goal.returns-clause-value
returns-clause-value c =
    let j = c.self.inside in
    rw (← c.self.view_is, c.find_row.ensures, c.as_slice.ensures.value, c.self.invariant.3.rows_are)
    (table_shows j.opening (reverse j.entries.items) c.args.id)
