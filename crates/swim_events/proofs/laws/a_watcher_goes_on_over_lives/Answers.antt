use Rattle.swim_events.proofs.Told.{over_begins, over_goes_on}
use Rattle.swim_events.proofs.laws.a_watcher_goes_on_over_lives.Goals as goal

pub returns-clause-begins : goal.returns-clause-begins
returns-clause-begins c = over_begins

pub returns-clause-goes_on : goal.returns-clause-goes_on
returns-clause-goes_on c = over_goes_on
