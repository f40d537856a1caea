use Rattle.std.proofs.Common.{length, Some}
use Rattle.swim_commands.specs.Ages.{aged, aged_line}
use Rattle.swim_commands.proofs.LineTexts.{WrittenSoFar}
use Rattle.swim_commands.proofs.ages.put_lines.Given as goal

abbrev pub invariant-loop-line : goal.invariant-loop-line
invariant-loop-line g l =
    WrittenSoFar (aged_line l.fn.periods) (aged (Some l.fn.periods) l.fn.answer) l.lines
    (g.W.Sink.written l.initial.writer) (g.W.Sink.written l.writer)

abbrev pub decreases-loop-line : goal.decreases-loop-line
decreases-loop-line g l = length l.lines
