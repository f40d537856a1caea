use Rattle.std.proofs.Common.{◌≡◌}
use Rattle.swim_node.specs.Cells.{AreNoted}
use Rattle.swim_node.proofs.seats.Seat.compare.Given as goal

abbrev pub invariant-loop-index : goal.invariant-loop-index
invariant-loop-index g l = (l.self ≡ l.fn.self) × (l.notes.items ≡ l.fn.notes.items) ×
    AreNoted g.N.Naming.cells l.fn.self.number l.fn.self.calls l.fn.notes.items l.index
