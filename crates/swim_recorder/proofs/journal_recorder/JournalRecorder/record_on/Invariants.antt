use Rattle.swim_recorder.specs.Recording.{Keeps, at_recorder}
use Rattle.swim_recorder.proofs.journal_recorder.JournalRecorder.record_on.Given as goal

abbrev pub invariant-loop-turn : goal.invariant-loop-turn
invariant-loop-turn g l =
    Keeps g.W.Sink.written (at_recorder g.Y.Reporter.heard l.initial.self) l.initial.follower
    (at_recorder g.Y.Reporter.heard l.self) l.follower
