use Rattle.std.proofs.Common.{◌≡◌, ◌+◌, ◌-◌, ◌≤◌}
use Rattle.swim_script.specs.Forms.{most_bytes}
use Rattle.swim_script.specs.Holds.{CourseKnown}
use Rattle.swim_script.proofs.simulator.play.Given as goal

-- the lines that were read lead here, no read and no write has failed, and each line took a byte at least of those that
-- a script of that form may have
abbrev pub invariant-loop-session : goal.invariant-loop-session
invariant-loop-session g l = record {
  course : CourseKnown (g.R.Source.left l.initial.reader) (g.R.Source.left l.reader) (g.W.Sink.written l.initial.writer)
      (g.W.Sink.written l.writer) l.form l.budget l.session;
  reads : g.R.Source.failures l.reader ≡ g.R.Source.failures l.initial.reader;
  writes : g.W.Sink.failures l.writer ≡ g.W.Sink.failures l.initial.writer;
  lines : l.session.lines + l.budget ≤ most_bytes l.form;
  most : most_bytes l.form ≤ 1073741824;
}

abbrev pub decreases-loop-session : goal.decreases-loop-session
decreases-loop-session g l = 1073741824 - l.session.lines
