use Rattle.swim_history_tests.specs.Worked.Gaps.{joined_is_run}
use Rattle.swim_history_tests.proofs.tests.gaps.counts_joiners.Goals as goal

pub replayed-journal-requires-clause-run : goal.replayed-journal-requires-clause-run
replayed-journal-requires-clause-run g c = rw c.joined.ensures joined_is_run
