use Rattle.swim_events.proofs.Rebuilding.{life_begins, life_goes_on}
use Rattle.swim_events.proofs.laws.a_life_begins_with_the_table_before_it.Goals as goal

pub returns-clause-begins : goal.returns-clause-begins
returns-clause-begins c = life_begins

pub returns-clause-goes_on : goal.returns-clause-goes_on
returns-clause-goes_on c = life_goes_on
