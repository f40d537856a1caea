use Rattle.std.proofs.Common.{◌≡◌, drop}
use Rattle.swim_node.proofs.board.append.Given as goal

-- what was refused changed nothing
abbrev pub invariant-loop : goal.invariant-loop
invariant-loop g l = (l.writer.desk ≡ l.fn.writer.desk) ×
    (drop l.writer.behind l.writer.log.items ≡ drop l.fn.writer.behind l.fn.writer.log.items)
