use Rattle.swim_detector.specs.Mirrors.{plain}
use Rattle.swim_detector.proofs.Settling.{settled}
use Rattle.swim_detector.proofs.states.State.answer.Goals as goal

pub returns-in-Tick : goal.returns-in-Tick
returns-in-Tick g c = rw c.in-Tick.is c.tick.ensures

pub returns-in-Hear : goal.returns-in-Hear
returns-in-Hear g c =
    rw c.in-Hear.is (settled g.C.Chooser.orders g.C.Chooser.places c.args.journal.now.opening c.args.journal.now.past _
    (plain c.hear.new.reply) c.hear.new.self c.args.chooser.now c.hear.ensures)

pub returns-in-Join : goal.returns-in-Join
returns-in-Join g c = rw c.in-Join.is c.join.ensures

pub returns-in-Remove : goal.returns-in-Remove
returns-in-Remove g c =
    rw c.in-Remove.is (settled g.C.Chooser.orders g.C.Chooser.places c.args.journal.now.opening c.args.journal.now.past
    _ (plain c.remove.new.reply) c.remove.new.self c.args.chooser.now c.remove.ensures)
