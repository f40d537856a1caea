use Rattle.std.proofs.Common.{◌++◌, ◌∷◌, [], sym}
use Rattle.swim_recorder.specs.Recording.{at_recorder}
use Rattle.swim_recorder.proofs.Keeping.{keeps_as, keeps_none}
use Rattle.swim_recorder.proofs.journal_recorder.JournalRecorder.read_next.Goals as goal

pub returns-in_default : goal.returns-in_default
returns-in_default g c =
    let old = at_recorder g.Y.Reporter.heard c.args.self.now in
    keeps_as g.W.Sink.written old old c.args.follower.now c.args.follower.now c.follow.new.follower
    (sym c.in_default.ensures.none) (keeps_none g.W.Sink.written old c.args.follower.now)

pub returns : goal.returns
returns g c =
    keeps_as g.W.Sink.written (at_recorder g.Y.Reporter.heard c.args.self.now)
    (at_recorder g.Y.Reporter.heard c.record_call.new.self) c.args.follower.now
    (c.args.follower.now ++ c.in-Some.next ∷ []) c.follow.new.follower (sym c.in-Some.ensures.some)
    (c.record_call.ensures c.args.follower.now)
