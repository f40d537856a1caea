use Rattle.std.proofs.Common.{arith}
use Rattle.std.proofs.lemmas.Grind.{common_steps}
use Rattle.swim_keys.specs.Hmac.{hmac_by}
use Rattle.swim_keys.proofs.hmacs.Hmac.digest.Goals as goal

pub returns : goal.returns
unfolding hmac_by
returns c = grind (arith, common_steps)
