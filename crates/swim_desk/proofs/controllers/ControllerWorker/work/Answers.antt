use Rattle.std.proofs.Common.{rules}
use Rattle.swim_desk.proofs.Controlled.{life_controlled}
use Rattle.swim_desk.proofs.controllers.ControllerWorker.work.Goals as goal

pub returns-clause-works : goal.returns-clause-works
returns-clause-works g c =
    let old = c.args.self.now in
    let hall = c.serve_on-why.new.hall in
    let controlling = c.serve_on-why.new.controlling in
    life_controlled g.N.Naming.opening g.N.Naming.limit (g.D.Door.faults old.hall.door) (g.D.Door.faults hall.door)
    old.hall.connections hall.connections c.args.seat c.done.result.seat c.new.result controlling.desk c.args.viewer
    c.done.result.viewer c.none.result.in_a_row controlling.faults.in_a_row c.serve_on-why.result c.done.result.end
    (search rules) (search rules) (search rules) (search rules) c.new.ensures c.none.ensures c.done.ensures.seat
    c.done.ensures.viewer c.done.ensures.end c.serve_on-why.ensures.controlled
