use Rattle.swim_rejoin.proofs.Joining.{pinged}
use Rattle.swim_rejoin.proofs.laws.no_ping_is_believed.Goals as goal

pub returns : goal.returns
returns c = pinged
