use Rattle.swim_detector.proofs.Settling.{refused}
use Rattle.swim_detector.proofs.states.State.refuse.Goals as goal

pub returns : goal.returns
returns c = (refused c.args.journal.now.opening c.args.journal.now.past c.args.self.now c.args.call.now c.args.refusal
    c.requires.mirrors c.requires.fits)
