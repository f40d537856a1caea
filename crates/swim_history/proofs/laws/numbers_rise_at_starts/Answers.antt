use Rattle.swim_history.specs.Laws.Run.{number_then}
use Rattle.swim_history.proofs.laws.numbers_rise_at_starts.Goals as goal

pub returns : goal.returns
returns c = number_then
