use Rattle.swim_history_tests.specs.Worked.Returns.{judged_and_back_is_run}
use Rattle.swim_history_tests.proofs.tests.gaps.keeps_the_widest_gap_of_a_judged_member.Goals as goal

pub replayed-journal-requires-clause-run : goal.replayed-journal-requires-clause-run
replayed-journal-requires-clause-run g c = rw c.judged_and_back.ensures judged_and_back_is_run
