use Rattle.swim_journal.proofs.Reseated.{replayed}
use Rattle.swim_journal.proofs.laws.a_replay_is_the_run.Goals as goal

pub returns : goal.returns
returns g c functional = replayed g.C.Drawing.orders g.C.Drawing.places g.C.Drawing.same functional
