use Rattle.std.proofs.Common.{arith}
use Rattle.swim_commands.proofs.control_lines.line_of.Goals as goal

pub push-requires : goal.push-requires
push-requires c = (omega arith, omega (arith, c.joined-line.ensures.room))
