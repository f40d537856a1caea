use Rattle.swim_watch.proofs.ReadBack.{ended_back}
use Rattle.swim_watch.proofs.laws.an_end_is_said.Goals as goal

pub returns : goal.returns
returns c = ended_back
