use Rattle.swim_recorder.specs.Recording.{at_recorder}
use Rattle.swim_recorder.proofs.Keeping.{keeps_both}
use Rattle.swim_recorder.proofs.journal_recorder.JournalRecorder.record_on.Goals as goal

pub returns-in_default : goal.returns-in_default
returns-in_default g c =
    keeps_both g.W.Sink.written (at_recorder g.Y.Reporter.heard c.args.self.now)
    (at_recorder g.Y.Reporter.heard c.loop-turn.self) (at_recorder g.Y.Reporter.heard c.turn.new.self)
    c.args.follower.now c.loop-turn.follower c.turn.new.follower c.loop-turn.invariant c.turn.ensures

pub loop-turn-preserved : goal.loop-turn-preserved
loop-turn-preserved g c =
    let written = g.W.Sink.written in
    let heard = g.Y.Reporter.heard in
    let follower = c.turn.new.follower in
    keeps_both written (at_recorder heard c.args.self.now) (at_recorder heard c.turn.new.self)
    (at_recorder heard c.serve.new.self) c.args.follower.now follower follower
    (keeps_both written (at_recorder heard c.args.self.now) (at_recorder heard c.loop-turn.self)
    (at_recorder heard c.turn.new.self) c.args.follower.now c.loop-turn.follower follower c.loop-turn.invariant
    c.turn.ensures) (c.serve.ensures follower)
