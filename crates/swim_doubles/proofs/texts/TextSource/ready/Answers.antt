use Rattle.std.proofs.Common.{None, true}
use Rattle.swim_doubles.specs.Texts.{ready_front}
use Rattle.swim_doubles.proofs.texts.TextSource.ready.Goals as goal

pub returns-clause-front : goal.returns-clause-front
returns-clause-front c = rw (← c.self.view_is, c.line_of.ensures) (ready_front None true c.self.inside.left.now)
