use Rattle.swim_web.proofs.Dotted.{front_of}
use Rattle.swim_web.proofs.services.samples_of.Goals as goal

pub returns : goal.returns
returns c = front_of c.args.answer.now c.strip_suffix.result c.strip_suffix.ensures.cases
