use Rattle.std.proofs.Common.{length}
use Rattle.swim_history.proofs.openings.+names_member.Given as goal

abbrev pub decreases-names_member : goal.decreases-names_member
decreases-names_member l = length l.rows.now
