use Rattle.std.proofs.Common.{arith}
use Rattle.std.proofs.lemmas.Grind.{common_steps}
use Rattle.swim_fence.specs.Places.{hash_of}
use Rattle.swim_fence.proofs.places.hash_of.Goals as goal

pub returns-clause-value : goal.returns-clause-value
unfolding hash_of
returns-clause-value c = grind (arith, common_steps)
