use Rattle.std.proofs.Common.{Option, ◌∙◌, ap}
use Rattle.swim_control.specs.declared.desks.DeskCommand.TheVariants.{Join, Remove, Gap}
use Rattle.swim_control.specs.declared.serving.Served.{Served}
use Rattle.swim_control.specs.Desks.{Measures, Answers}
use Rattle.swim_control.specs.Turns.{closed}
use Rattle.swim_control.proofs.LineTurns.{told_turned, end_told}
use Rattle.swim_control.proofs.turns.carry_out.Goals as goal

pub returns-in-Gap-clause-turned : goal.returns-in-Gap-clause-turned
returns-in-Gap-clause-turned g c =
    rw c.in-Gap.is (told_turned g.D.Desk.asks (Gap c.in-Gap.id) (Measures c.gap-gap.result) c.args.desk.now
    c.gap-gap.new.self (g.W.Sink.written c.args.writer.now) (g.W.Sink.written c.put_gap.new.writer) c.put_gap.result
    c.close.result
    c.gap-gap.ensures c.put_gap.ensures.bytes c.close.ensures)

pub returns-in-Join-clause-turned : goal.returns-in-Join-clause-turned
returns-in-Join-clause-turned g c =
    rw c.in-Join.is (told_turned g.D.Desk.asks (Join c.in-Join.id c.in-Join.peer) (Answers c.join-answer.result)
    c.args.desk.now c.join-answer.new.self (g.W.Sink.written c.args.writer.now)
    (g.W.Sink.written c.put_answer.new.writer) c.put_answer.result c.close-in-Join.result
    c.join-answer.ensures c.put_answer.ensures.bytes
    (c.close-in-Join.ensures ∙
    ap (λ (end : Option Served). closed c.put_answer.result end)
    (c.end_of.ensures ∙ end_told c.join-answer.result)))

pub returns-in-Remove-clause-turned : goal.returns-in-Remove-clause-turned
returns-in-Remove-clause-turned g c =
    rw c.in-Remove.is (told_turned g.D.Desk.asks (Remove c.in-Remove.id) (Answers c.remove-answer.result)
    c.args.desk.now c.remove-answer.new.self (g.W.Sink.written c.args.writer.now)
    (g.W.Sink.written c.put_answer-in-Remove.new.writer) c.put_answer-in-Remove.result c.close-in-Remove.result
    c.remove-answer.ensures c.put_answer-in-Remove.ensures.bytes
    (c.close-in-Remove.ensures ∙
    ap (λ (end : Option Served). closed c.put_answer-in-Remove.result end)
    (c.end_of-in-Remove.ensures ∙ end_told c.remove-answer.result)))
