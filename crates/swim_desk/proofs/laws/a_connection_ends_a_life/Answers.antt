use Rattle.swim_desk.proofs.Ended.{life_ended}
use Rattle.swim_desk.proofs.laws.a_connection_ends_a_life.Goals as goal

pub returns : goal.returns
returns c = λ o limit before after old new seat seen end why life ends other.
    life_ended o limit before after old new seat seen end why life ends other
