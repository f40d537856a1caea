use Rattle.std.proofs.Common.{get_or, sym, ◌∙◌}
use Rattle.swim_history.specs.Places.{IsAt, IsGapFor}
use Rattle.swim_history.specs.Rows.{failed}
use Rattle.swim_history.proofs.Places.{written, failed_at, failed_in_gap}
use Rattle.swim_history.proofs.tables.fail.Goals as goal

pub returns-in-Ok : goal.returns-in-Ok
returns-in-Ok c =
    let rows = c.args.table.now.items in
    let found : IsAt rows c.args.id c.in-Ok.place = rw c.as_slice.ensures.value at c.in-Ok.ensures.found in
    rw c.deref_mut.ensures.value (
    written rows c.in-Ok.place (failed c.args.number (get_or rows c.in-Ok.place c.index-deref_mut-place.result))
    ∙ sym (failed_at c.args.id c.args.number rows c.in-Ok.place c.index-deref_mut-place.result c.requires found)
    )

pub returns-in_default : goal.returns-in_default
returns-in_default c =
    let absent : IsGapFor c.args.table.now.items c.args.id c.in_default.field-0 =
    rw c.as_slice.ensures.value at c.in_default.ensures.absent in
    sym (failed_in_gap c.args.id c.args.number c.args.table.now.items c.in_default.field-0 absent)
