use Rattle.std.proofs.Common.{take}
use Rattle.swim_node.specs.Following.{filings_of}
use Rattle.swim_recorder.specs.Recording.{Keeps, at_recorder}
use Rattle.swim_recorder.proofs.journal_recorder.JournalRecorder.read_rest.Given as goal

abbrev pub invariant-loop-place : goal.invariant-loop-place
invariant-loop-place g l =
    Keeps g.W.Sink.written (at_recorder g.Y.Reporter.heard l.initial.self)
    (take l.fn.read (filings_of l.fn.journal.past)) (at_recorder g.Y.Reporter.heard l.self)
    (take l.place (filings_of l.fn.journal.past))
