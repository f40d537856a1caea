use Rattle.swim_recorder.specs.Recording.{at_recorder}
use Rattle.swim_recorder.proofs.Keeping.{keeps_both}
use Rattle.swim_recorder.proofs.journal_recorder.JournalRecorder.read_on.Goals as goal

pub returns-then-not-read_next : goal.returns-then-not-read_next
returns-then-not-read_next g c =
    keeps_both g.W.Sink.written (at_recorder g.Y.Reporter.heard c.args.self.now)
    (at_recorder g.Y.Reporter.heard c.loop-call.self) (at_recorder g.Y.Reporter.heard c.read_next.new.self)
    c.args.follower.now c.loop-call.follower c.read_next.new.follower c.loop-call.invariant c.read_next.ensures

pub loop-call-preserved : goal.loop-call-preserved
loop-call-preserved g c =
    keeps_both g.W.Sink.written (at_recorder g.Y.Reporter.heard c.args.self.now)
    (at_recorder g.Y.Reporter.heard c.loop-call.self) (at_recorder g.Y.Reporter.heard c.read_next.new.self)
    c.args.follower.now c.loop-call.follower c.read_next.new.follower c.loop-call.invariant c.read_next.ensures
