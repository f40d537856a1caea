use Rattle.std.proofs.Common.{rules}
use Rattle.swim_control.proofs.Given.{ended_given}
use Rattle.swim_control.proofs.connections.Connection.turn.Goals as goal

pub returns-in-Some-end-clause-turns : goal.returns-in-Some-end-clause-turns
returns-in-Some-end-clause-turns g c = record {
  serving = search rules;
  met = c.in-End.met;
  line = c.read_on.new.line.items;
  read = search rules;
  put = g.W.Sink.written c.meet-end.new.writer;
  meets = search rules;
  sent = search rules;
  rest = search rules;
}

pub returns-in-Some-end-clause-given : goal.returns-in-Some-end-clause-given
returns-in-Some-end-clause-given g c =
    ended_given g.D.Desk.asks c.args.now c.args.self.now c.settle.new.self c.args.desk.now c.meet-end.new.desk
    c.in-Some-end.end (record {
      serving = search rules;
      met = c.in-End.met;
      line = c.read_on.new.line.items;
      read = search rules;
      put = g.W.Sink.written c.meet-end.new.writer;
      meets = search rules;
      sent = search rules;
      rest = search rules;
    }) (search rules)
