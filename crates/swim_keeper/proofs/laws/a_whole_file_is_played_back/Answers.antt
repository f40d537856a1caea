use Rattle.swim_keeper.proofs.Whole.{whole_played, whole_differs}
use Rattle.swim_keeper.proofs.laws.a_whole_file_is_played_back.Goals as goal

pub returns-clause-played : goal.returns-clause-played
returns-clause-played c = whole_played

pub returns-clause-differs : goal.returns-clause-differs
returns-clause-differs c = whole_differs
