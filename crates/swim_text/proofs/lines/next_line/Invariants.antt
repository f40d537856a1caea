-- Bytes of the first line were taken, within the budget; nothing failed, and what the writer took stays.
use Rattle.std.proofs.Common.{◌≡◌, ◌≤◌}
use Rattle.std.specs.Io.KnownBytes.{Keeps}
use Rattle.swim_text.specs.Cutting.{TakingKnown}
use Rattle.swim_text.proofs.lines.next_line.Given as goal

abbrev pub invariant-loop-reader : goal.invariant-loop-reader
invariant-loop-reader g l = record {
  taking : TakingKnown (g.R.Source.left l.initial.reader) (g.R.Source.left l.reader) l.line.items g.row.LIMIT l.start
      l.budget l.is_long;
  within : l.budget ≤ l.start;
  kept : Keeps (g.W.Sink.written l.initial.writer) (g.W.Sink.written l.writer);
  reads : g.R.Source.failures l.reader ≡ g.R.Source.failures l.initial.reader;
  writes : g.W.Sink.failures l.writer ≡ g.W.Sink.failures l.initial.writer;
}

abbrev pub decreases-loop-reader : goal.decreases-loop-reader
decreases-loop-reader g l = l.budget
