use Rattle.swim_events.proofs.Rebuilding.{goes_on_rows, lines_are}
use Rattle.swim_events.proofs.laws.a_watcher_can_rebuild_the_table.Goals as goal

pub returns-clause-rows : goal.returns-clause-rows
returns-clause-rows c = goes_on_rows

pub returns-clause-lines : goal.returns-clause-lines
returns-clause-lines c = lines_are
