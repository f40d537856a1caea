use Rattle.std.proofs.Common.{length}
use Rattle.swim_journal.proofs.headings.+put_rows.Given as goal

abbrev pub decreases-put_rows : goal.decreases-put_rows
decreases-put_rows g l = length l.rows.now
