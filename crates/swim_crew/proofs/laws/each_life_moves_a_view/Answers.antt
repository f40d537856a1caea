use Rattle.swim_crew.proofs.Seen.{all_moved}
use Rattle.swim_crew.proofs.laws.each_life_moves_a_view.Goals as goal

pub returns : goal.returns
returns g c = λ opens lives opening limit seed old new end are.
    all_moved _ g.V.View.seen g.V.View.moves opens lives opening limit seed old new end are
