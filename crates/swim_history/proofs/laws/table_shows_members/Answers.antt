use Rattle.swim_history.specs.Laws.Table.{table_shows, table_ascends, table_bound}
use Rattle.swim_history.proofs.laws.table_shows_members.Goals as goal

pub returns-clause-shows : goal.returns-clause-shows
returns-clause-shows c = table_shows

pub returns-clause-ascends : goal.returns-clause-ascends
returns-clause-ascends c = table_ascends

pub returns-clause-bound : goal.returns-clause-bound
returns-clause-bound c = table_bound
