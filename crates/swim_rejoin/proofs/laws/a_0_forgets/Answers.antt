use Rattle.swim_rejoin.proofs.Forgetting.{believed_since}
use Rattle.swim_rejoin.proofs.laws.a_0_forgets.Goals as goal

pub returns-clause-joins : goal.returns-clause-joins
returns-clause-joins c = believed_since
