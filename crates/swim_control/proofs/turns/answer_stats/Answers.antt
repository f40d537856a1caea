use Rattle.swim_control.specs.declared.desks.DeskCommand.TheVariants.{Stats}
use Rattle.swim_control.specs.Desks.{Counts}
use Rattle.swim_control.proofs.LineTurns.{told_turned}
use Rattle.swim_control.proofs.turns.answer_stats.Goals as goal

pub returns-clause-turned : goal.returns-clause-turned
returns-clause-turned g c =
    told_turned g.D.Desk.asks Stats (Counts c.stats-text.result) c.args.desk.now c.stats-text.new.self
    (g.W.Sink.written c.args.writer.now) (g.W.Sink.written c.put_counts.new.writer) c.put_counts.result
    c.close.result c.stats-text.ensures c.put_counts.ensures.bytes c.close.ensures
