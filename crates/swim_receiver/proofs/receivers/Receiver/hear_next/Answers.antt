use Rattle.std.proofs.Common.{ap, refl, rules}
use Rattle.swim_work.specs.Posts.{at_sender}
use Rattle.swim_receiver.specs.Receiving.{at_turn}
use Rattle.swim_receiver.proofs.Receiving.{datagram_turned, fault_turned, idle_turned}
use Rattle.swim_receiver.proofs.receivers.Receiver.hear_next.Goals as goal

pub returns-in-Datagram-clause-turn : goal.returns-in-Datagram-clause-turn
returns-in-Datagram-clause-turn g c =
    let old = c.args.self.now in
    let mid = c.show.new.self in
    let new = c.hear_and_join.new.self in
    let hearing = c.args.hearing.now in
    let heard = c.hear_and_join.new.caller in
    datagram_turned g.N.Naming.opening g.N.Naming.limit
    (at_turn (at_sender hearing.caller.seat old.post hearing.caller.counts) hearing.faults.in_a_row
    (g.L.Line.received old.line) old.returning hearing.viewer) mid.returning c.hear_and_join.result
    (at_turn (at_sender heard.seat new.post heard.counts) c.clear.new.self.in_a_row (g.L.Line.received new.line)
    new.returning c.show.new.viewer) (record { got = c.receive.result; bytes = c.receive.new.bytes })
    c.in-Datagram.count c.in-Datagram.source _ (at_sender hearing.caller.seat mid.post hearing.caller.counts)
    (rw (c.hear_and_join.ensures.line, c.show.ensures.received) c.receive.ensures.received) (search rules)
    (search rules) (search rules)
    (ap (λ post. at_sender hearing.caller.seat post hearing.caller.counts) c.show.ensures.post) c.show.ensures.learns
    c.show.ensures.same c.hear_and_join.ensures.hears

pub returns-in-Idle-clause-turn : goal.returns-in-Idle-clause-turn
returns-in-Idle-clause-turn g c =
    let old = c.args.self.now in
    let hearing = c.args.hearing.now in
    let sender = at_sender hearing.caller.seat old.post hearing.caller.counts in
    idle_turned g.N.Naming.opening g.N.Naming.limit
    (at_turn sender hearing.faults.in_a_row (g.L.Line.received old.line) old.returning hearing.viewer) _
    (at_turn sender c.clear-in-Idle.new.self.in_a_row (g.L.Line.received c.receive.new.self) old.returning
    hearing.viewer) (record { got = c.receive.result; bytes = c.receive.new.bytes }) c.receive.ensures.received
    (search rules) refl refl refl (search rules) refl

pub returns-in-Fault-clause-turn : goal.returns-in-Fault-clause-turn
returns-in-Fault-clause-turn g c =
    let old = c.args.self.now in
    let hearing = c.args.hearing.now in
    let sender = at_sender hearing.caller.seat old.post hearing.caller.counts in
    fault_turned g.N.Naming.opening g.N.Naming.limit
    (at_turn sender hearing.faults.in_a_row (g.L.Line.received old.line) old.returning hearing.viewer) c.more.result
    (at_turn sender c.more.new.self.in_a_row (g.L.Line.received c.receive.new.self) old.returning hearing.viewer)
    (record { got = c.receive.result; bytes = c.receive.new.bytes }) c.receive.ensures.received (search rules) refl
    refl refl (search rules) (search rules)
