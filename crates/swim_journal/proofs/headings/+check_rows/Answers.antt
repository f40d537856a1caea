use Rattle.std.proofs.Common.{sym, subst}
use Rattle.swim_text.specs.TwoPuts.{first_and_others}
use Rattle.swim_journal.specs.Headings.{AreTellable}
use Rattle.swim_journal.proofs.headings.+check_rows.Goals as goal

pub returns : goal.returns
returns t c =
    subst AreTellable (sym
    (first_and_others c.args.rows.now c.first-item.result c.in-len1-up.len_at_least c.first-item.is))
    (c.check_row.ensures.id, c.check_row.ensures.peer, c.check_row.ensures.state, c.check_rows.ensures)
