use Rattle.std.proofs.Common.{length}
use Rattle.swim_config.proofs.warnings.+put_shared_address.Given as goal

abbrev pub decreases-put_shared_address : goal.decreases-put_shared_address
decreases-put_shared_address g l = length l.others.now
