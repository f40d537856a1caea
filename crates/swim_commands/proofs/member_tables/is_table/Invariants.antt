use Rattle.std.proofs.Common.{◌≡◌, length}
use Rattle.swim_commands.specs.Forms.{is_rows_and_dot, is_table}
use Rattle.swim_commands.proofs.member_tables.is_table.Given as goal

abbrev pub invariant-loop-line : goal.invariant-loop-line
invariant-loop-line l = is_table l.fn.answer ≡ is_rows_and_dot l.lines

abbrev pub decreases-loop-line : goal.decreases-loop-line
decreases-loop-line l = length l.lines
