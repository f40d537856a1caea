use Rattle.swim_rejoin.proofs.Joining.{answered}
use Rattle.swim_rejoin.proofs.laws.who_answers_a_knock_is_joined.Goals as goal

pub returns : goal.returns
returns c = answered
