use Rattle.swim_rejoin.proofs.Fairness.{has_its_turn}
use Rattle.swim_rejoin.proofs.laws.each_failed_member_has_its_turn.Goals as goal

pub returns : goal.returns
returns c = has_its_turn
