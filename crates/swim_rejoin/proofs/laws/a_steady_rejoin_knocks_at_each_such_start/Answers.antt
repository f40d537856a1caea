use Rattle.swim_rejoin.proofs.Starting.{steady_due}
use Rattle.swim_rejoin.proofs.laws.a_steady_rejoin_knocks_at_each_such_start.Goals as goal

pub returns : goal.returns
returns c = steady_due
