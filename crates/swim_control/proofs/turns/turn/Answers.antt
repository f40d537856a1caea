use Rattle.std.proofs.Common.{Ok, sym, ◌∙◌, ap}
use Rattle.swim_control.specs.Commands.{line_said}
use Rattle.swim_control.proofs.LineTurns.{fault_turned, stop_turned}
use Rattle.swim_control.proofs.turns.turn.Goals as goal

pub returns-in-Err-clause-turned : goal.returns-in-Err-clause-turned
returns-in-Err-clause-turned g c =
    fault_turned g.D.Desk.asks (line_said c.args.line.now) c.in-Err.fault c.args.desk.now
    (g.W.Sink.written c.args.writer.now) (g.W.Sink.written c.put_fault.new.writer) c.put_fault.result c.close.result
    c.in-Err.ensures c.put_fault.ensures.bytes c.close.ensures

pub returns-in-Ok-Stop-clause-turned : goal.returns-in-Ok-Stop-clause-turned
returns-in-Ok-Stop-clause-turned g c =
    stop_turned g.D.Desk.asks (line_said c.args.line.now) c.args.desk.now (g.W.Sink.written c.args.writer.now)
    (g.W.Sink.written c.put.new.self) c.put.result c.close-in-Ok-Stop.result
    (ap Ok (sym c.in-Ok-Stop.field-0-is) ∙ c.in-Ok-Stop.ensures) c.put.ensures.bytes c.close-in-Ok-Stop.ensures
