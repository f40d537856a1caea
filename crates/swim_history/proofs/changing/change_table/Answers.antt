use Rattle.swim_history.specs.Laws.Table.{change_ascends}
use Rattle.swim_history.proofs.changing.change_table.Goals as goal

pub returns-then-has_room-clause-ascends : goal.returns-then-has_room-clause-ascends
returns-then-has_room-clause-ascends c =
    rw c.apply_change.ensures (change_ascends c.args.change.now c.args.table.now.items c.requires)
