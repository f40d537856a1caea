use Rattle.swim_rejoin.proofs.Joining.{recorded}
use Rattle.swim_rejoin.proofs.laws.a_recorded_ack_is_not_believed.Goals as goal

pub returns : goal.returns
returns c = recorded
