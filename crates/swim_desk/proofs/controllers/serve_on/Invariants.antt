use Rattle.std.proofs.Common.{◌≡◌, None}
use Rattle.swim_desk.specs.Controlling.{HasControlled, at_control}
use Rattle.swim_desk.proofs.controllers.serve_on.Given as goal

abbrev pub invariant-loop-turn : goal.invariant-loop-turn
invariant-loop-turn g l = record {
  controlled : HasControlled g.N.Naming.opening g.N.Naming.limit (g.D.Door.faults l.initial.hall.door)
      (g.D.Door.faults l.hall.door)
      (at_control l.initial.hall.connections l.initial.controlling.desk l.initial.controlling.faults.in_a_row) None
      (at_control l.hall.connections l.controlling.desk l.controlling.faults.in_a_row);
  number : l.controlling.desk.seat.number ≡ l.initial.controlling.desk.seat.number;
}
