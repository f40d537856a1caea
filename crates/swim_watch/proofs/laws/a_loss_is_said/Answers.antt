use Rattle.swim_watch.proofs.ReadBack.{lost_back}
use Rattle.swim_watch.proofs.laws.a_loss_is_said.Goals as goal

pub returns : goal.returns
returns c = lost_back
