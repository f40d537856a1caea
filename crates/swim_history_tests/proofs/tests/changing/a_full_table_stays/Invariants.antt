use Rattle.swim_history.specs.Changes.{IsAscending}
use Rattle.swim_history_tests.proofs.tests.changing.a_full_table_stays.Given as goal

abbrev pub invariant-loop-number : goal.invariant-loop-number
invariant-loop-number g l = IsAscending l.table.items
