use Rattle.swim_desk.proofs.Answered.{none_answered}
use Rattle.swim_desk.proofs.SoFar.{life_given, none_given}
use Rattle.swim_desk.proofs.laws.each_line_is_called.Goals as goal

pub returns-clause-none : goal.returns-clause-none
returns-clause-none c = λ b. none_answered b

pub returns-clause-none_given : goal.returns-clause-none_given
returns-clause-none_given c = none_given

pub returns-clause-life : goal.returns-clause-life
returns-clause-life c = λ o limit before after old new seat seen end life.
    life_given o limit before after old new seat seen end life
