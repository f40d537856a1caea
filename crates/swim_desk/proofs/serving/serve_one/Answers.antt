use Rattle.swim_desk.proofs.Controlled.{one_ends, one_goes_on}
use Rattle.swim_desk.proofs.Fullness.{turned_full}
use Rattle.swim_desk.proofs.Numbered.{turned_same}
use Rattle.swim_desk.proofs.serving.serve_one.Goals as goal

pub returns-in-Some-why_at-clause-serves : goal.returns-in-Some-why_at-clause-serves
returns-in-Some-why_at-clause-serves g c = λ row.
    one_ends g.N.Naming.opening g.N.Naming.limit c.args.now c.in-Some.stand c.args.hall.now.connections c.turn.new.self
    c.args.desk.now c.turn.new.desk row c.why_at.result c.in-Some-why_at.why c.in-Some.ensures.turn
    c.in-Some.ensures.count c.why_at.ensures c.in-Some-why_at.is

pub returns-in-None-why_at-clause-serves : goal.returns-in-None-why_at-clause-serves
returns-in-None-why_at-clause-serves g c = λ row.
    one_goes_on g.N.Naming.opening g.N.Naming.limit c.args.now c.in-Some.stand c.args.hall.now.connections
    c.turn.new.self c.args.desk.now c.turn.new.desk row c.why_at.result c.in-Some.ensures.turn
    c.in-Some.ensures.count c.why_at.ensures c.in-None-why_at.is

pub returns-in-Some-why_at-clause-number : goal.returns-in-Some-why_at-clause-number
returns-in-Some-why_at-clause-number g c =
    turned_same g.N.Naming.opening g.N.Naming.limit c.args.now c.in-Some.stand c.args.hall.now.connections
    c.turn.new.self c.args.desk.now c.turn.new.desk c.in-Some.ensures.turn

pub returns-in-Some-why_at-clause-full : goal.returns-in-Some-why_at-clause-full
returns-in-Some-why_at-clause-full g c = λ is.
    turned_full g.N.Naming.opening g.N.Naming.limit c.args.now c.in-Some.stand c.args.hall.now.connections
    c.turn.new.self c.args.desk.now c.turn.new.desk c.why_at.result c.in-Some-why_at.why c.in-Some.ensures.turn
    c.why_at.ensures c.in-Some-why_at.is (cc is)
