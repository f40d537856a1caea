use Rattle.std.proofs.Common.{Some, sym, ap, ◌∙◌}
use Rattle.swim_history.specs.declared.rows.Row.{Row}
use Rattle.swim_history.proofs.Places.{found_at, found_in_gap}
use Rattle.swim_history.proofs.tables.find_row.Goals as goal

pub returns-in-Ok : goal.returns-in-Ok
returns-in-Ok c =
    ap (λ (row : Row). Some row) c.index-rows-place.is
    ∙ sym (found_at c.args.rows.now c.args.id c.in-Ok.place c.index-rows-place.result c.requires c.in-Ok.ensures.found)

pub returns-in-Err : goal.returns-in-Err
returns-in-Err c = sym (found_in_gap c.args.rows.now c.args.id c.in-Err.field-0 c.in-Err.ensures.absent)
