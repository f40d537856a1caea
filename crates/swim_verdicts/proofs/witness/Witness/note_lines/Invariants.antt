use Rattle.std.proofs.Common.{◌≤◌, length}
use Rattle.swim_verdicts.proofs.witness.Witness.note_lines.Given as goal

abbrev pub invariant-loop : goal.invariant-loop
invariant-loop l = length l.rest ≤ length l.lines
