use Rattle.swim_commands.proofs.ControlLines.{Taking}
use Rattle.swim_commands.proofs.control_lines.read_line.Given as goal

abbrev pub invariant-loop-turn : goal.invariant-loop-turn
invariant-loop-turn g l = Taking (g.S.Source.left l.initial.reader) (g.S.Source.left l.reader) l.line.items l.is_begun
