-- The lines that were read were answered; no read and no write has failed.
use Rattle.std.proofs.Common.{◌≡◌}
use Rattle.swim_control.specs.Serving.{CourseKnown}
use Rattle.swim_control.proofs.serving.serve.Given as goal

abbrev pub invariant-loop-line : goal.invariant-loop-line
invariant-loop-line g l = record {
  course : CourseKnown g.D.Desk.asks (g.S.Source.left l.initial.reader) (g.S.Source.left l.reader) l.initial.desk l.desk
      (g.W.Sink.written l.initial.writer) (g.W.Sink.written l.writer) l.reads;
  read : g.S.Source.failures l.reader ≡ g.S.Source.failures l.initial.reader;
  written : g.W.Sink.failures l.writer ≡ g.W.Sink.failures l.initial.writer;
}

abbrev pub decreases-loop-line : goal.decreases-loop-line
decreases-loop-line g l = l.reads
