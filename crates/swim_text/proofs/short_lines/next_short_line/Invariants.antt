-- Bytes of the line were taken, each by a read; nothing failed, and what the writer took stays.
use Rattle.std.proofs.Common.{◌≡◌, ◌≤◌}
use Rattle.std.specs.Io.KnownBytes.{Keeps}
use Rattle.swim_text.specs.ShortLines.{IsTakenKnown}
use Rattle.swim_text.proofs.short_lines.next_short_line.Given as goal

abbrev pub invariant-loop-reads : goal.invariant-loop-reads
invariant-loop-reads g l = record {
  taken : IsTakenKnown (g.R.Source.left l.initial.reader) (g.R.Source.left l.reader) l.line.items g.row.LIMIT
      l.initial.reads l.reads;
  within : l.reads ≤ l.initial.reads;
  kept : Keeps (g.W.Sink.written l.initial.writer) (g.W.Sink.written l.writer);
  read : g.R.Source.failures l.reader ≡ g.R.Source.failures l.initial.reader;
  written : g.W.Sink.failures l.writer ≡ g.W.Sink.failures l.initial.writer;
}

abbrev pub decreases-loop-reads : goal.decreases-loop-reads
decreases-loop-reads g l = l.reads
