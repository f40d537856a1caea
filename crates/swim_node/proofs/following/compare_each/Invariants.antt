use Rattle.std.proofs.Common.{◌≡◌}
use Rattle.swim_node.specs.Following.{StandAmong}
use Rattle.swim_node.proofs.following.compare_each.Given as goal

abbrev pub invariant-loop-index : goal.invariant-loop-index
invariant-loop-index g l = (l.own.items ≡ l.fn.own.items) × (l.notes.items ≡ l.fn.notes.items) ×
    StandAmong l.fn.own.items l.fn.notes.items l.index
