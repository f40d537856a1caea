use Rattle.std.proofs.Common.{ℕ, List, subst}
use Rattle.swim_text.specs.Streams.{Puts}
use Rattle.swim_control.specs.declared.desks.DeskCommand.TheVariants.{Reload}
use Rattle.swim_control.specs.Desks.{Reloads}
use Rattle.swim_control.proofs.LineTurns.{told_turned}
use Rattle.swim_control.proofs.turns.answer_reload.Goals as goal

pub returns-clause-turned : goal.returns-clause-turned
returns-clause-turned g c =
    told_turned g.D.Desk.asks Reload (Reloads c.reload-text.result) c.args.desk.now c.reload-text.new.self
    (g.W.Sink.written c.args.writer.now) (g.W.Sink.written c.put.new.self) c.put.result c.close.result
    c.reload-text.ensures
    (subst (λ (text : List ℕ). Puts (g.W.Sink.written c.args.writer.now) (g.W.Sink.written c.put.new.self) text
    c.put.result) c.as_slice.ensures.value c.put.ensures.bytes) c.close.ensures
