use Rattle.std.proofs.Common.{None, Some, ◌∙◌}
use Rattle.swim_desk.specs.Controlling.{at_control}
use Rattle.swim_desk.proofs.Controlled.{more_served}
use Rattle.swim_desk.proofs.serving.serve_rounds.Goals as goal

pub returns-in-Err-clause-serves : goal.returns-in-Err-clause-serves
returns-in-Err-clause-serves g c = λ row.
    more_served g.N.Naming.opening g.N.Naming.limit (at_control c.args.hall.now.connections c.args.desk.now row)
    (at_control c.loop-round.hall.connections c.loop-round.desk row) (Some c.in-Err.why)
    (at_control c.serve_each.new.hall.connections c.serve_each.new.desk row) (c.loop-round.invariant.serves row)
    (c.in-Err.ensures.serves row)

pub returns-then-not-is_up-clause-serves : goal.returns-then-not-is_up-clause-serves
returns-then-not-is_up-clause-serves g c = λ row.
    more_served g.N.Naming.opening g.N.Naming.limit (at_control c.args.hall.now.connections c.args.desk.now row)
    (at_control c.loop-round.hall.connections c.loop-round.desk row) None
    (at_control c.serve_each.new.hall.connections c.serve_each.new.desk row) (c.loop-round.invariant.serves row)
    (c.in-Ok.ensures.serves row)

pub loop-round-preserved : goal.loop-round-preserved
loop-round-preserved g c = record {
  serves = λ row.
      more_served g.N.Naming.opening g.N.Naming.limit (at_control c.args.hall.now.connections c.args.desk.now row)
      (at_control c.loop-round.hall.connections c.loop-round.desk row) None
      (at_control c.serve_each.new.hall.connections c.serve_each.new.desk row) (c.loop-round.invariant.serves row)
      (c.in-Ok.ensures.serves row);
  number = c.serve_each.ensures.number ∙ c.loop-round.invariant.number;
  door = c.serve_each.ensures.door ∙ c.loop-round.invariant.door;
}
