use Rattle.std.proofs.Common.{◌≡◌, length}
use Rattle.swim_text.specs.Words.{words_by}
use Rattle.swim_commands.specs.Ages.{has_failed}
use Rattle.swim_commands.proofs.ages.has_failed.Given as goal

abbrev pub invariant-loop-line : goal.invariant-loop-line
invariant-loop-line l = has_failed (words_by 10 l.fn.answer) ≡ has_failed l.lines

abbrev pub decreases-loop-line : goal.decreases-loop-line
decreases-loop-line l = length l.lines
