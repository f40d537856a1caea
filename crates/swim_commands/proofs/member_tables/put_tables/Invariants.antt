use Rattle.std.proofs.Common.{length}
use Rattle.swim_commands.specs.Forms.{table_line, tables_text}
use Rattle.swim_commands.proofs.LineTexts.{WrittenSoFar}
use Rattle.swim_commands.proofs.member_tables.put_tables.Given as goal

abbrev pub invariant-loop-line : goal.invariant-loop-line
invariant-loop-line g l =
    WrittenSoFar table_line (tables_text l.fn.answer) l.lines (g.W.Sink.written l.initial.writer)
    (g.W.Sink.written l.writer)

abbrev pub decreases-loop-line : goal.decreases-loop-line
decreases-loop-line g l = length l.lines
