use Rattle.swim_recorder.specs.Recording.{at_recorder}
use Rattle.swim_recorder.proofs.Keeping.{keeps_none}
use Rattle.swim_recorder.proofs.journal_recorder.JournalRecorder.turn.Goals as goal

pub returns-in-Tick : goal.returns-in-Tick
returns-in-Tick g c = c.step.ensures

pub returns-in-Idle : goal.returns-in-Idle
returns-in-Idle g c =
    keeps_none g.W.Sink.written (at_recorder g.Y.Reporter.heard c.args.self.now) c.args.follower.now

pub returns-in-Stop : goal.returns-in-Stop
returns-in-Stop g c =
    keeps_none g.W.Sink.written (at_recorder g.Y.Reporter.heard c.args.self.now) c.args.follower.now
