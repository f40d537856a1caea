use Rattle.swim_receiver.proofs.Learning.{more_learnt}
use Rattle.swim_receiver.proofs.receivers.Receiver.show.Goals as goal

pub returns-then-take_due-clause-learns : goal.returns-then-take_due-clause-learns
returns-then-take_due-clause-learns g c =
    let saw = c.args.viewer.now in
    let seen = c.look.new.viewer in
    more_learnt g.N.Naming.opening saw saw seen c.args.self.now.returning c.rule.new.self c.take_over.new.self
    (c.rule.ensures.learns g.N.Naming.opening saw)
    (more_learnt g.N.Naming.opening saw seen seen c.rule.new.self c.look.new.self.returning c.take_over.new.self
    c.look.ensures.learns (c.take_over.ensures.learns g.N.Naming.opening seen))
