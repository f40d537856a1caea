use Rattle.swim_history.specs.Laws.Table.{ascending_ascends}
use Rattle.swim_events.proofs.watching.Watching.new.Goals as goal

pub invariant_of-result : goal.invariant_of-result
invariant_of-result c = rw c.table_of.ensures (ascending_ascends c.rows.result.now)
