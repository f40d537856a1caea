use Rattle.swim_work.specs.Posts.{at_sender}
use Rattle.swim_receiver.proofs.Rejoined.{none_joined, one_joined}
use Rattle.swim_receiver.proofs.receivers.Receiver.hear_and_join.Goals as goal

pub returns-in-None-clause-hears : goal.returns-in-None-clause-hears
returns-in-None-clause-hears g c = λ h is.
    let returning = c.args.self.now.returning in
    let heard = c.hear-end.new.self in (
      h,
      is,
      none_joined g.N.Naming.opening g.N.Naming.limit returning.rejoiner.me h c.args.bytes.now
          c.args.source (at_sender c.args.caller.now.seat c.args.self.now.post c.args.caller.now.counts)
          c.hear-end.result.0 (at_sender heard.seat c.hear-end.new.post heard.counts) c.hear-end.result.1
          c.whom.result c.hear-end.ensures.hears c.hear-end.ensures.message c.in-None.is (c.whom.ensures h is),
    )

pub returns-in-Some-clause-hears : goal.returns-in-Some-clause-hears
returns-in-Some-clause-hears g c = λ h is.
    let returning = c.args.self.now.returning in
    let heard = c.hear-end.new.self in
    let joined = c.join_again.new.caller in
    let t = c.join_again.ensures.joins.2 h is in (
      t.0,
      t.1,
      one_joined g.N.Naming.opening g.N.Naming.limit returning.rejoiner.me h t.0
          c.args.bytes.now c.args.source
          (at_sender c.args.caller.now.seat c.args.self.now.post c.args.caller.now.counts) c.hear-end.result.0
          (at_sender heard.seat c.hear-end.new.post heard.counts) c.hear-end.result.1 c.whom.result c.in-Some.row
          c.join_again.result (at_sender joined.seat c.join_again.new.self.post joined.counts)
          c.hear-end.ensures.hears c.hear-end.ensures.message c.in-Some.is (c.whom.ensures h is)
          c.join_again.ensures.joins.0 c.join_again.ensures.joins.1 t.2,
    )
