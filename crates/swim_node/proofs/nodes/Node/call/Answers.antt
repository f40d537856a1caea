use Rattle.std.proofs.Common.{rules}
use Rattle.swim_node.proofs.Filing.{numbered_then, noted_then}
use Rattle.swim_node.proofs.nodes.Node.call.Goals as goal

pub invariant_of-seat-2 : goal.invariant_of-seat-2
invariant_of-seat-2 g c =
    let k = c.in-Some-answered.kept in
    let calls = c.seat.inside.calls.items in
    let new = c.push_reserved-2.new.self.items in (
      search rules,
      numbered_then calls new k c.seat.invariant.1 (search rules) (search rules),
      noted_then g.N.Naming.cells c.call-answered.new.tally.seat calls new k c.seat.inside.notes.items
          c.push_reserved.new.self.items c.in-Some-answered.note (search rules) (search rules) (search rules)
          (search rules),
    )
