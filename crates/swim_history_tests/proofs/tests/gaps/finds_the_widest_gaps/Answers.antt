use Rattle.swim_history_tests.specs.Worked.Gaps.{four_periods_are_run}
use Rattle.swim_history_tests.proofs.tests.gaps.finds_the_widest_gaps.Goals as goal

pub replayed-journal-requires-clause-run : goal.replayed-journal-requires-clause-run
replayed-journal-requires-clause-run g c = rw c.four_periods.ensures four_periods_are_run
