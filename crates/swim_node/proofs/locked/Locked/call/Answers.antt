use Rattle.std.proofs.Common.{rules, ap, arith, length}
use Rattle.swim_node.proofs.Counting.{calls_within}
use Rattle.swim_node.proofs.Telling.{changes_within, change_fits}
use Rattle.swim_node.proofs.locked.Locked.call.Goals as goal

pub overflow_cast-kept : goal.overflow_cast-kept
overflow_cast-kept g c =
    let seat = c.args.tally.now.seat in
    let past = c.self.inside.recorder.past in
    omega (
      arith,
      c.requires,
      c.audit.ensures.count,
      c.self.invariant.2 seat c.audit.ensures.seat,
      calls_within seat past,
      c.len-position.ensures.value,
      c.len-position.auto,
      ap length c.journal.ensures.past,
    )

pub publish_if-requires-clause-room : goal.publish_if-requires-clause-room
publish_if-requires-clause-room g c =
    omega (
      arith,
      ap length c.self.invariant.3,
      changes_within g.N.Naming.opening c.self.inside.recorder.past,
      c.len-position.ensures.value,
      c.len-position.auto,
      ap length c.journal.ensures.past,
    )

pub publish_if-requires-clause-fits : goal.publish_if-requires-clause-fits
publish_if-requires-clause-fits g c =
    let recorded = c.record_ready.ensures in
    let before = c.make_room.new.recorder in
    change_fits g.N.Naming.opening before.opening c.self.inside.recorder.past before.past c.args.call.now
    c.change-change.result c.self.inside.board recorded.0 (search rules) (search rules) (search rules)
    (search rules) (search rules) (search rules)
    c.change-change.ensures (search rules)
