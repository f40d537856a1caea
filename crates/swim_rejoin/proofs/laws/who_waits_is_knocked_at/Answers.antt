use Rattle.swim_rejoin.proofs.Joining.{joined-waited}
use Rattle.swim_rejoin.proofs.laws.who_waits_is_knocked_at.Goals as goal

pub returns : goal.returns
returns c = joined-waited
