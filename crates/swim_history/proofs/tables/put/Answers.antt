use Rattle.std.proofs.Common.{sym, ◌∙◌, lit<, arith}
use Rattle.swim_history.specs.Places.{IsAt, IsGapFor}
use Rattle.swim_history.proofs.Places.{written, put_at, put_in_gap, put_finds_room}
use Rattle.swim_history.proofs.tables.put.Goals as goal

pub insert-requires : goal.insert-requires
insert-requires c =
    let absent : IsGapFor c.args.table.now.items c.args.row.id c.in-Err.place =
    rw c.as_slice.ensures.value at c.in-Err.ensures.absent in (
      lit< tt,
      (
        absent.in_range,
        omega (arith, put_finds_room c.args.row c.args.table.now.items c.in-Err.place absent, c.requires.fits),
      ),
    )

pub returns-in-Ok : goal.returns-in-Ok
returns-in-Ok c =
    let rows = c.args.table.now.items in
    let found : IsAt rows c.args.row.id c.in-Ok.place = rw c.as_slice.ensures.value at c.in-Ok.ensures.found in
    rw c.deref_mut.ensures.value
    (written rows c.in-Ok.place c.args.row ∙ sym (put_at c.args.row rows c.in-Ok.place c.requires.ascends found))

pub returns-in-Err : goal.returns-in-Err
returns-in-Err c =
    let absent : IsGapFor c.args.table.now.items c.args.row.id c.in-Err.place =
    rw c.as_slice.ensures.value at c.in-Err.ensures.absent in
    c.insert.ensures.items ∙ sym (put_in_gap c.args.row c.args.table.now.items c.in-Err.place absent)
