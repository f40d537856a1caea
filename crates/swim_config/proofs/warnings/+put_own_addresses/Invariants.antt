use Rattle.std.proofs.Common.{length}
use Rattle.swim_config.proofs.warnings.+put_own_addresses.Given as goal

abbrev pub decreases-put_own_addresses : goal.decreases-put_own_addresses
decreases-put_own_addresses g l = length l.members.now
