use Rattle.swim_web.proofs.RowsTold.{members_told}
use Rattle.swim_web.proofs.laws.members_are_told.Goals as goal

pub returns : goal.returns
returns c = λ rows others p q same. members_told rows others p.each q.each same
