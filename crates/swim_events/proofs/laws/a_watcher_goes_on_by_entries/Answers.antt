use Rattle.swim_events.proofs.Told.{watched_first, watched_more}
use Rattle.swim_events.proofs.laws.a_watcher_goes_on_by_entries.Goals as goal

pub returns-clause-begins : goal.returns-clause-begins
returns-clause-begins c = watched_first

pub returns-clause-goes_on : goal.returns-clause-goes_on
returns-clause-goes_on c = watched_more
