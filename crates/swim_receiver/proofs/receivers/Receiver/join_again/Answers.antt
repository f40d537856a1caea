use Rattle.std.proofs.Common.{rules}
use Rattle.swim_work.specs.Posts.{at_sender}
use Rattle.swim_receiver.proofs.Rejoined.{joined_again}
use Rattle.swim_receiver.proofs.receivers.Receiver.join_again.Goals as goal

pub returns-clause-joins : goal.returns-clause-joins
returns-clause-joins g c =
    let caller = c.args.caller.now in
    let joining = c.join-end.new in
    joined_again g.N.Naming.opening g.N.Naming.limit c.args.row.now c.args.self.now.returning c.joined.new.self
    (at_sender caller.seat c.args.self.now.post caller.counts) c.join-end.result.0
    (at_sender joining.self.seat joining.post joining.self.counts) c.join-end.result.1 c.join-end.ensures.joins
    (search rules) c.joined.ensures.joined
