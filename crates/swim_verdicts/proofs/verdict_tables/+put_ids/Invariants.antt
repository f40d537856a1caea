use Rattle.std.proofs.Common.{length}
use Rattle.swim_verdicts.proofs.verdict_tables.+put_ids.Given as goal

abbrev pub decreases-put_ids : goal.decreases-put_ids
decreases-put_ids g l = length l.relays.now
