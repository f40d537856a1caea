use Rattle.swim_recorder.specs.Recording.{Keeps, at_recorder}
use Rattle.swim_recorder.proofs.journal_recorder.JournalRecorder.read_on.Given as goal

abbrev pub invariant-loop-call : goal.invariant-loop-call
invariant-loop-call g l =
    Keeps g.W.Sink.written (at_recorder g.Y.Reporter.heard l.initial.self) l.initial.follower
    (at_recorder g.Y.Reporter.heard l.self) l.follower
