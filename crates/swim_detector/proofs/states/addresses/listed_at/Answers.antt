use Rattle.std.proofs.Common.{sym}
use Rattle.swim_detector.proofs.Finding.{row_up}
use Rattle.swim_detector.proofs.states.addresses.listed_at.Goals as goal

pub returns-in-Up-clause-row : goal.returns-in-Up-clause-row
returns-in-Up-clause-row c =
    row_up c.args.journal.now.opening c.args.journal.now.past c.args.id c.in-Some.row (sym c.in-Some.ensures.value)
    c.in-Up.is
