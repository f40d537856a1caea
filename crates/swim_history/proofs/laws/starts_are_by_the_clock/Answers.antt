use Rattle.swim_history.specs.Laws.Run.{start_by_clock}
use Rattle.swim_history.proofs.laws.starts_are_by_the_clock.Goals as goal

pub returns : goal.returns
returns c = start_by_clock
