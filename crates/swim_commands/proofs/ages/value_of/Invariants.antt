use Rattle.std.proofs.Common.{◌≡◌, length}
use Rattle.swim_text.specs.Words.{words_by}
use Rattle.swim_commands.specs.Ages.{value_of}
use Rattle.swim_commands.proofs.ages.value_of.Given as goal

abbrev pub invariant-loop-line : goal.invariant-loop-line
invariant-loop-line l = value_of l.fn.front (words_by 10 l.fn.counts) ≡ value_of l.fn.front l.lines

abbrev pub decreases-loop-line : goal.decreases-loop-line
decreases-loop-line l = length l.lines
