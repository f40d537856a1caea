use Rattle.swim_recorder.specs.Recording.{at_recorder}
use Rattle.swim_recorder.proofs.Keeping.{keeps_both}
use Rattle.swim_recorder.proofs.journal_recorder.JournalRecorder.step.Goals as goal

pub returns : goal.returns
returns g c =
    keeps_both g.W.Sink.written (at_recorder g.Y.Reporter.heard c.args.self.now)
    (at_recorder g.Y.Reporter.heard c.read_on-is_more.new.self) (at_recorder g.Y.Reporter.heard c.rest.new.self)
    c.args.follower.now c.read_on-is_more.new.follower c.read_on-is_more.new.follower c.read_on-is_more.ensures
    (c.rest.ensures.keeps c.read_on-is_more.new.follower)
