use Rattle.std.proofs.Common.{◌≡◌, length}
use Rattle.swim_commands.specs.Answers.{is_answer, is_rows_and_line}
use Rattle.swim_commands.proofs.answers.is_answer.Given as goal

abbrev pub invariant-loop-line : goal.invariant-loop-line
invariant-loop-line l = is_answer l.fn.text ≡ is_rows_and_line l.lines

abbrev pub decreases-loop-line : goal.decreases-loop-line
decreases-loop-line l = length l.lines
