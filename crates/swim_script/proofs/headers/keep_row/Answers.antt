use Rattle.std.proofs.Common.{arith, ◌∙◌}
use Rattle.swim_script.proofs.KeptRows.{row_kept, row_left_out}
use Rattle.swim_script.proofs.headers.keep_row.Goals as goal

pub returns-then-len-lt-KEPT_ROWS : goal.returns-then-len-lt-KEPT_ROWS
returns-then-len-lt-KEPT_ROWS c =
    c.push.ensures.items ∙
    row_kept c.args.rows.now.items c.args.row (omega (arith, c.if-len-lt-KEPT_ROWS.true, c.len.ensures.value))

pub returns-else-len-lt-KEPT_ROWS : goal.returns-else-len-lt-KEPT_ROWS
returns-else-len-lt-KEPT_ROWS c =
    row_left_out c.args.rows.now.items c.args.row
    (omega (arith, c.if-len-lt-KEPT_ROWS.false, c.len.ensures.value, c.len.ensures.fits))
