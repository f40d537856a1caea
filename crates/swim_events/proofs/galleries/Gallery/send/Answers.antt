use Rattle.swim_events.proofs.Over.{told_sent}
use Rattle.swim_events.proofs.galleries.Gallery.send.Goals as goal

pub returns-clause-told : goal.returns-clause-told
returns-clause-told g c =
    λ lives are.
    told_sent c.args.time lives c.args.self.now c.turn_each.new.self c.turn_each.ensures are
