use Rattle.std.proofs.Common.{◌≡◌, ℕ, None}
use Rattle.swim_desk.specs.Controlling.{Serves, at_control}
use Rattle.swim_desk.proofs.serving.serve_each.Given as goal

abbrev pub invariant-loop-place : goal.invariant-loop-place
invariant-loop-place g l = record {
  serves : (row : ℕ) → Serves g.N.Naming.opening g.N.Naming.limit
      (at_control l.initial.hall.connections l.initial.desk row) None (at_control l.hall.connections l.desk row);
  number : l.desk.seat.number ≡ l.initial.desk.seat.number;
  door : l.hall.door ≡ l.initial.hall.door;
}
