use Rattle.swim_history.specs.Laws.Unchanged.{declining_changes_nothing}
use Rattle.swim_history.proofs.laws.declining_changes_nothing.Goals as goal

pub returns : goal.returns
returns c = declining_changes_nothing
