use Rattle.swim_history.specs.Rows.{up}
use Rattle.std.proofs.Common.{inl, inr, sym, length, arith}
use Rattle.std.proofs.lemmas.Bool.{le-leb}
use Rattle.swim_history.specs.declared.rows.Change.TheVariants as change
use Rattle.swim_history.specs.Changes.{after_change}
use Rattle.swim_history.specs.Laws.Table.{gone_length, failed_length}
use Rattle.swim_history.proofs.Room.{room_left, room_known}
use Rattle.swim_history.proofs.changing.has_room.Goals as goal

pub returns-then-rows-lt-KNOWN_MEMBERS : goal.returns-then-rows-lt-KNOWN_MEMBERS
returns-then-rows-lt-KNOWN_MEMBERS c =
    rw c.in-Up.is (room_left (up c.in-Up.id c.in-Up.field-1) c.args.rows.now c.if-rows-lt-KNOWN_MEMBERS.true)

pub returns-else-rows-lt-KNOWN_MEMBERS : goal.returns-else-rows-lt-KNOWN_MEMBERS
returns-else-rows-lt-KNOWN_MEMBERS c =
    rw (c.is_some.ensures, c.in-Up.is)
    (room_known (up c.in-Up.id c.in-Up.field-1) c.args.rows.now c.find_row.result c.requires.ascends
    c.if-rows-lt-KNOWN_MEMBERS.false c.requires.bound c.find_row.ensures)

pub returns-in-Failed-2 : goal.returns-in-Failed-2
returns-in-Failed-2 c =
    let rows = c.args.rows.now in
    elim c.in-Failed.is [
      | inl failed ↦ rw failed.2
          (sym (le-leb (length (after_change (change.Failed failed.0 failed.1) rows)) 128
          (omega (arith, failed_length failed.0 failed.1 rows, c.requires.bound))))
      | inr gone ↦ rw gone.1
          (sym (le-leb (length (after_change (change.Gone gone.0) rows)) 128
          (omega (arith, gone_length gone.0 rows, c.requires.bound))))
    ]
