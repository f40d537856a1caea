use Rattle.swim_fence.proofs.Refusals.{refused_lately}
use Rattle.swim_fence.proofs.laws.who_keeps_to_the_rate_passes.Goals as goal

pub returns : goal.returns
returns c = refused_lately
