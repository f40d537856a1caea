use Rattle.std.proofs.Common.{Some}
use Rattle.swim_desk.proofs.Controlled.{let_in_and_served}
use Rattle.swim_desk.proofs.serving.serve_next.Goals as goal

pub returns-in-Err-serve_rounds-clause-turn : goal.returns-in-Err-serve_rounds-clause-turn
returns-in-Err-serve_rounds-clause-turn g c =
    let old = c.args.hall.now in
    let mid = c.let_in.new.hall in
    let new = c.serve_rounds.new.hall in
    let row = c.let_in.new.faults.in_a_row in
    let_in_and_served g.N.Naming.opening g.N.Naming.limit (g.D.Door.faults old.door) (g.D.Door.faults mid.door)
    (g.D.Door.faults new.door) old.connections mid.connections new.connections c.args.desk.now c.serve_rounds.new.desk
    c.args.faults.now.in_a_row row (Some c.in-Err-serve_rounds.why) c.in-Ok.ensures.lets c.serve_rounds.ensures.door
    (c.in-Err-serve_rounds.ensures.serves row)
