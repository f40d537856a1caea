use Rattle.std.proofs.Common.{refl, sym}
use Rattle.swim_commands.specs.declared.askers.Came.TheVariants as came
use Rattle.swim_commands.proofs.Beside.{counts_beside}
use Rattle.swim_commands.proofs.ask.ask_beside.Goals as goal

pub returns-in-Answer : goal.returns-in-Answer
returns-in-Answer g c =
    counts_beside c.args.form c.args.answer.now c.ask.new.answer.items c.ask.new.answer.items came.Answer
    (g.A.Asker.asked c.args.asker.now) (g.A.Asker.asked c.ask.new.self) (sym c.if-not-needs_counts.ensures)
    c.in-Answer.ensures.asked refl

pub returns-in-Late : goal.returns-in-Late
returns-in-Late g c =
    counts_beside c.args.form c.args.answer.now c.clear-in-Late.new.self.items c.ask.new.answer.items came.Late
    (g.A.Asker.asked c.args.asker.now) (g.A.Asker.asked c.ask.new.self) (sym c.if-not-needs_counts.ensures)
    c.in-Late.ensures.asked c.clear-in-Late.ensures

pub returns-in-Nothing : goal.returns-in-Nothing
returns-in-Nothing g c =
    counts_beside c.args.form c.args.answer.now c.clear-in-Nothing.new.self.items c.ask.new.answer.items came.Nothing
    (g.A.Asker.asked c.args.asker.now) (g.A.Asker.asked c.ask.new.self) (sym c.if-not-needs_counts.ensures)
    c.in-Nothing.ensures.asked c.clear-in-Nothing.ensures
