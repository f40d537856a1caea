use Rattle.swim_journal.proofs.Reseated.{run_reseated, drawn_reseated}
use Rattle.swim_journal.proofs.laws.who_called_changes_nothing.Goals as goal

pub returns-clause-run : goal.returns-clause-run
returns-clause-run g c = run_reseated

pub returns-clause-drawn : goal.returns-clause-drawn
returns-clause-drawn g c o start now h drawn = drawn_reseated g.C.Drawing.orders g.C.Drawing.places o start now h drawn
