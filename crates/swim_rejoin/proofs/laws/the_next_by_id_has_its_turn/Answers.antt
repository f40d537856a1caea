use Rattle.swim_rejoin.proofs.Fairness.{turn_passes_nobody}
use Rattle.swim_rejoin.proofs.laws.the_next_by_id_has_its_turn.Goals as goal

pub returns : goal.returns
returns c = λ last rows id row next ascends there failed turn.
    turn_passes_nobody rows id row next last ascends there failed turn
