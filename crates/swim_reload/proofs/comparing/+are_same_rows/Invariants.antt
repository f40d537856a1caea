use Rattle.std.proofs.Common.{length}
use Rattle.swim_reload.proofs.comparing.+are_same_rows.Given as goal

abbrev pub decreases-are_same_rows : goal.decreases-are_same_rows
decreases-are_same_rows l = length l.rows.now
