use Rattle.swim_receiver.proofs.Datagrams.{each_is_heard}
use Rattle.swim_receiver.proofs.laws.each_datagram_is_heard.Goals as goal

pub returns : goal.returns
returns g c = λ o limit old new seat seen end life.
    each_is_heard g.O.Post.posted o limit old seat seen end new life
