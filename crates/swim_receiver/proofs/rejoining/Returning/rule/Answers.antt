use Rattle.swim_receiver.proofs.Learning.{more_learnt}
use Rattle.swim_receiver.proofs.rejoining.Returning.rule.Goals as goal

pub returns-clause-learns : goal.returns-clause-learns
returns-clause-learns g c = λ o seen.
    more_learnt o seen seen seen c.args.self.now c.take_over.new.self c.renew.new.self
    (c.take_over.ensures.learns o seen) (c.renew.ensures.learns o seen)
