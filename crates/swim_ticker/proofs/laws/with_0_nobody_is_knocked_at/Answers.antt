use Rattle.swim_work.specs.Posts.{starts_in}
use Rattle.swim_ticker.proofs.Knocked.{none_knocked_with_0}
use Rattle.swim_ticker.proofs.laws.with_0_nobody_is_knocked_at.Goals as goal

pub returns : goal.returns
returns g c = λ o limit old new seat seen end life answers is each within.
    none_knocked_with_0 o (starts_in seat.calls) seen old.answered new.answered answers old.knocked new.knocked
    old.knocks life.knocks new.knocks life.knocked life.counted is each within
