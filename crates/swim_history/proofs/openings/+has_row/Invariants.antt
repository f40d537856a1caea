use Rattle.std.proofs.Common.{length}
use Rattle.swim_history.proofs.openings.+has_row.Given as goal

abbrev pub decreases-has_row : goal.decreases-has_row
decreases-has_row l = length l.rows.now
