use Rattle.swim_control.specs.declared.desks.DeskCommand.TheVariants.{List as Lists}
use Rattle.swim_control.specs.Desks.{Shows}
use Rattle.swim_control.proofs.LineTurns.{told_turned}
use Rattle.swim_control.proofs.turns.answer_list.Goals as goal

pub returns-clause-turned : goal.returns-clause-turned
returns-clause-turned g c =
    told_turned g.D.Desk.asks Lists (Shows c.list-table.result) c.args.desk.now c.list-table.new.self
    (g.W.Sink.written c.args.writer.now) (g.W.Sink.written c.put_list.new.writer) c.put_list.result c.close.result
    c.list-table.ensures c.put_list.ensures.bytes c.close.ensures
