use Rattle.std.proofs.Common.{rules}
use Rattle.swim_receiver.specs.Receiving.{owned}
use Rattle.swim_receiver.proofs.Receiving.{life_heard}
use Rattle.swim_receiver.proofs.receivers.ReceiverWorker.work.Goals as goal

pub returns-clause-works : goal.returns-clause-works
returns-clause-works g c =
    let old = c.args.self.now in
    let new = c.hear_on-why.new.self in
    let hearing = c.hear_on-why.new.hearing in
    rw (c.done.ensures.seat, c.done.ensures.viewer) (life_heard g.O.Post.posted g.N.Naming.opening g.N.Naming.limit
    (owned (g.L.Line.received old.line) (g.L.Line.listed old.line) old.post old.returning)
    (owned (g.L.Line.received new.line) (g.L.Line.listed new.line) new.post new.returning)
    c.new.result.seat hearing.caller.seat c.new.result.counts hearing.caller.counts c.none.result.in_a_row
    hearing.faults.in_a_row c.hear_on-why.result c.done.result.end c.args.viewer hearing.viewer
    (search rules) (search rules) c.new.ensures.counts c.none.ensures (search rules) c.hear_on-why.ensures.number
    c.done.ensures.end c.hear_on-why.ensures.heard c.hear_on-why.ensures.sent c.hear_on-why.ensures.same
    c.hear_on-why.ensures.shown)
