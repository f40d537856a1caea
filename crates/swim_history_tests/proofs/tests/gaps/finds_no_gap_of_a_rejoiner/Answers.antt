use Rattle.swim_history_tests.specs.Worked.Gaps.{rejoined_is_run}
use Rattle.swim_history_tests.proofs.tests.gaps.finds_no_gap_of_a_rejoiner.Goals as goal

pub replayed-journal-requires-clause-run : goal.replayed-journal-requires-clause-run
replayed-journal-requires-clause-run g c = rw c.rejoined.ensures rejoined_is_run
