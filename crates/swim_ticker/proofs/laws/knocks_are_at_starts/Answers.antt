use Rattle.swim_work.specs.Posts.{starts_in}
use Rattle.swim_ticker.proofs.Knocked.{all_knocked}
use Rattle.swim_ticker.proofs.laws.knocks_are_at_starts.Goals as goal

pub returns : goal.returns
returns g c = λ o limit old new seat seen end life.
    all_knocked o (starts_in seat.calls) seen old.answered new.answered old.knocked new.knocked old.knocks
    life.knocks new.knocks life.knocked life.counted
