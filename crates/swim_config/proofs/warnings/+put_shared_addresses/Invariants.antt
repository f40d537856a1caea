use Rattle.std.proofs.Common.{length}
use Rattle.swim_config.proofs.warnings.+put_shared_addresses.Given as goal

abbrev pub decreases-put_shared_addresses : goal.decreases-put_shared_addresses
decreases-put_shared_addresses g l = length l.members.now
