use Rattle.swim_ticker.proofs.Ticked.{each_is_called}
use Rattle.swim_ticker.proofs.laws.each_tick_is_a_call.Goals as goal

pub returns : goal.returns
returns g c = λ o limit old new seat seen end life. each_is_called g.O.Post.posted o limit old seat seen end new life
