use Rattle.swim_history.specs.Laws.Run.{IsRun-older}
use Rattle.swim_history.proofs.laws.older_part_is_a_run.Goals as goal

pub returns : goal.returns
returns c = IsRun-older
