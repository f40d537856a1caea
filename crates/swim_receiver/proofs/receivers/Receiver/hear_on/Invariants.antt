use Rattle.std.proofs.Common.{◌≡◌, None}
use Rattle.swim_work.specs.Callers.{SendsOn}
use Rattle.swim_work.specs.Posts.{at_sender}
use Rattle.swim_receiver.specs.Receiving.{HasHeard, at_turn}
use Rattle.swim_receiver.specs.Rejoining.{IsOfSame}
use Rattle.swim_receiver.specs.Showing.{AreShown}
use Rattle.swim_receiver.proofs.receivers.Receiver.hear_on.Given as goal

abbrev pub invariant-loop-turn : goal.invariant-loop-turn
invariant-loop-turn g l = record {
  heard : HasHeard g.N.Naming.opening g.N.Naming.limit
      (at_turn
      (at_sender l.initial.hearing.caller.seat l.initial.self.post l.initial.hearing.caller.counts)
      l.initial.hearing.faults.in_a_row (g.L.Line.received l.initial.self.line) l.initial.self.returning
      l.initial.hearing.viewer) None
      (at_turn (at_sender l.hearing.caller.seat l.self.post l.hearing.caller.counts) l.hearing.faults.in_a_row
      (g.L.Line.received l.self.line) l.self.returning l.hearing.viewer);
  sent : SendsOn g.O.Post.posted g.N.Naming.opening
      (at_sender l.initial.hearing.caller.seat l.initial.self.post l.initial.hearing.caller.counts)
      (at_sender l.hearing.caller.seat l.self.post l.hearing.caller.counts);
  same : IsOfSame l.initial.self.returning l.self.returning;
  shown : AreShown g.N.Naming.opening l.initial.hearing.viewer l.hearing.viewer
      (g.L.Line.listed l.initial.self.line) (g.L.Line.listed l.self.line);
  number : l.hearing.caller.seat.number ≡ l.initial.hearing.caller.seat.number;
}
