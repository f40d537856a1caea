use Rattle.swim_detector.proofs.Hearing.{request_dropped}
use Rattle.swim_detector.proofs.states.State.drop_request.Goals as goal

pub returns : goal.returns
returns c source =
    (request_dropped c.args.journal.now.opening c.args.journal.now.past c.args.message.now source c.args.why
    c.args.self.now c.requires.mirrors c.requires.kind (c.requires.fits source))
