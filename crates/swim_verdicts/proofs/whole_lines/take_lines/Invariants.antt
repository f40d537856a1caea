-- The bytes taken so far have no line feed.
use Rattle.std.proofs.Common.{◌≡◌, ◌-◌, false, length}
use Rattle.std.specs.Io.KnownBytes.{Consumes}
use Rattle.swim_text.specs.Lines.{has_feed}
use Rattle.swim_verdicts.proofs.whole_lines.take_lines.Given as goal

abbrev pub invariant-loop-reader : goal.invariant-loop-reader
invariant-loop-reader g l = record {
  taken : Consumes (g.R.Source.left l.initial.reader) (g.R.Source.left l.reader) l.lines.items;
  unended : has_feed l.lines.items ≡ false;
}

abbrev pub decreases-loop-reader : goal.decreases-loop-reader
decreases-loop-reader g l = 2049 - length l.lines.items
