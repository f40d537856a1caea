use Rattle.std.proofs.Common.{None, Some, ◌∙◌}
use Rattle.swim_desk.specs.Controlling.{at_control}
use Rattle.swim_desk.proofs.Controlled.{more_served}
use Rattle.swim_desk.proofs.serving.serve_each.Goals as goal

pub returns-in-Err-clause-serves : goal.returns-in-Err-clause-serves
returns-in-Err-clause-serves g c = λ row.
    more_served g.N.Naming.opening g.N.Naming.limit (at_control c.args.hall.now.connections c.args.desk.now row)
    (at_control c.loop-place.hall.connections c.loop-place.desk row) (Some c.in-Err.why)
    (at_control c.serve_one.new.hall.connections c.serve_one.new.desk row) (c.loop-place.invariant.serves row)
    (c.in-Err.ensures.serves row)

pub loop-place-preserved : goal.loop-place-preserved
loop-place-preserved g c = record {
  serves = λ row.
      more_served g.N.Naming.opening g.N.Naming.limit (at_control c.args.hall.now.connections c.args.desk.now row)
      (at_control c.loop-place.hall.connections c.loop-place.desk row) None
      (at_control c.serve_one.new.hall.connections c.serve_one.new.desk row) (c.loop-place.invariant.serves row)
      (c.in-Ok.ensures.serves row);
  number = c.serve_one.ensures.number ∙ c.loop-place.invariant.number;
  door = c.serve_one.ensures.door ∙ c.loop-place.invariant.door;
}
