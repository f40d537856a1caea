use Rattle.swim_rejoin.proofs.Joining.{stranger}
use Rattle.swim_rejoin.proofs.laws.a_stranger_is_not_believed.Goals as goal

pub returns : goal.returns
returns c = stranger
