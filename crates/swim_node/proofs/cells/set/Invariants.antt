use Rattle.std.proofs.Common.{◌≡◌}
use Rattle.swim_node.proofs.cells.set.Given as goal

-- what was handed back is what was to be set
abbrev pub invariant-loop : goal.invariant-loop
invariant-loop g l = l.left.value ≡ l.fn.filed.value
