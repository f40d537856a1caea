use Rattle.swim_history_tests.specs.Worked.Histories.{two_periods_are_run}
use Rattle.swim_history_tests.proofs.tests.journals.played.Goals as goal

-- the second start follows the first entries of the worked run
pub append-requires-4-clause-continues : goal.append-requires-4-clause-continues
append-requires-4-clause-continues g c =
    rw (
      c.append-3.ensures.opening,
      c.append-2.ensures.opening,
      c.append.ensures.opening,
      c.append-3.ensures.past,
      c.append-2.ensures.past,
      c.append.ensures.past,
      c.new-journal.ensures.opening,
      c.new-journal.ensures.empty,
      c.two_members.ensures,
      c.first_start.ensures,
      c.ask.ensures,
      c.entry.ensures,
      c.second_start.ensures,
    ) two_periods_are_run.0
