use Rattle.swim_receiver.specs.Happenings.{events_in}
use Rattle.swim_receiver.proofs.Learning.{looked_learnt}
use Rattle.swim_receiver.proofs.rejoining.Returning.looked_at.Goals as goal

pub returns-then-not-are_same-clause-learns : goal.returns-then-not-are_same-clause-learns
returns-then-not-are_same-clause-learns c = λ o saw seen later table.
    looked_learnt o saw seen c.args.self.now
    (record c.args.self.now { rejoiner = c.looked_at.new.self; rows = c.copy_table-self.result }) c.args.rows.now
    later table
    (λ h is.
    (c.looked_at.ensures.follows (events_in h) is.0, c.copy_table-self.ensures, is.2, is.3, is.4, is.5))
