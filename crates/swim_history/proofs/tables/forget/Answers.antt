use Rattle.std.proofs.Common.{sym, ◌∙◌}
use Rattle.swim_history.specs.Places.{IsAt, IsGapFor}
use Rattle.swim_history.proofs.Places.{gone_at, gone_in_gap}
use Rattle.swim_history.proofs.tables.forget.Goals as goal

pub returns-in-Ok : goal.returns-in-Ok
returns-in-Ok c =
    let found : IsAt c.args.table.now.items c.args.id c.in-Ok.place =
    rw c.as_slice.ensures.value at c.in-Ok.ensures.found in
    c.remove.ensures.items ∙ sym (gone_at c.args.id c.args.table.now.items c.in-Ok.place c.requires found)

pub returns-in_default : goal.returns-in_default
returns-in_default c =
    let absent : IsGapFor c.args.table.now.items c.args.id c.in_default.field-0 =
    rw c.as_slice.ensures.value at c.in_default.ensures.absent in
    sym (gone_in_gap c.args.id c.args.table.now.items c.in_default.field-0 absent)
