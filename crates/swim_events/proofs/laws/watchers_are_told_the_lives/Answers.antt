use Rattle.swim_events.proofs.Over.{told_all, told_of_one}
use Rattle.swim_events.proofs.laws.watchers_are_told_the_lives.Goals as goal

pub returns-clause-keeps_up : goal.returns-clause-keeps_up
returns-clause-keeps_up c = told_all

pub returns-clause-one : goal.returns-clause-one
returns-clause-one c = told_of_one
