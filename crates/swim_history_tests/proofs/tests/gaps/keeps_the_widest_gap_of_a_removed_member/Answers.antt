use Rattle.swim_history_tests.specs.Worked.Returns.{returned_is_run}
use Rattle.swim_history_tests.proofs.tests.gaps.keeps_the_widest_gap_of_a_removed_member.Goals as goal

pub replayed-journal-requires-clause-run : goal.replayed-journal-requires-clause-run
replayed-journal-requires-clause-run g c = rw c.returned.ensures returned_is_run
