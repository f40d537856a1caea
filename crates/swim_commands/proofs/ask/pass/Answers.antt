use Rattle.std.proofs.Common.{true, false, refl, subst}
use Rattle.swim_text.specs.Streams.{Puts}
use Rattle.swim_commands.specs.Asking.{AsksBeside}
use Rattle.swim_commands.specs.Forms.{shown}
use Rattle.swim_commands.proofs.Beside.{passed, unpassed}
use Rattle.swim_commands.proofs.ask.pass.Goals as goal

pub returns-then-not-put_answer : goal.returns-then-not-put_answer
returns-then-not-put_answer g c =
    unpassed c.args.form c.args.line.now c.ask.new.answer.items c.ask_beside.new.counts.items
    (g.W.Sink.written c.args.writer.now) (g.W.Sink.written c.put_answer.new.writer)
    (g.A.Asker.asked c.args.asker.now) (g.A.Asker.asked c.ask.new.self) (g.A.Asker.asked c.ask_beside.new.asker)
    (c.in-Answer.ensures.whole refl) c.in-Answer.ensures.asked
    (subst (λ answer. AsksBeside c.args.form answer c.ask_beside.new.counts.items
    (g.A.Asker.asked c.ask.new.self) (g.A.Asker.asked c.ask_beside.new.asker)) c.as_slice.ensures.value
    c.ask_beside.ensures)
    (subst (λ counts. Puts (g.W.Sink.written c.args.writer.now) (g.W.Sink.written c.put_answer.new.writer)
    (shown c.args.form counts c.ask.new.answer.items) false) c.as_slice-3.ensures.value
    (subst (λ answer. Puts (g.W.Sink.written c.args.writer.now) (g.W.Sink.written c.put_answer.new.writer)
    (shown c.args.form c.as_slice-3.result.now answer) false) c.as_slice-2.ensures.value
    c.if-not-put_answer.ensures))

pub returns : goal.returns
returns g c =
    passed c.args.form c.args.line.now c.ask.new.answer.items c.ask_beside.new.counts.items
    (g.W.Sink.written c.args.writer.now) (g.W.Sink.written c.put_answer.new.writer)
    (g.A.Asker.asked c.args.asker.now) (g.A.Asker.asked c.ask.new.self) (g.A.Asker.asked c.ask_beside.new.asker)
    (c.in-Answer.ensures.whole refl) c.in-Answer.ensures.asked
    (subst (λ answer. AsksBeside c.args.form answer c.ask_beside.new.counts.items
    (g.A.Asker.asked c.ask.new.self) (g.A.Asker.asked c.ask_beside.new.asker)) c.as_slice.ensures.value
    c.ask_beside.ensures)
    (subst (λ counts. Puts (g.W.Sink.written c.args.writer.now) (g.W.Sink.written c.put_answer.new.writer)
    (shown c.args.form counts c.ask.new.answer.items) true) c.as_slice-3.ensures.value
    (subst (λ answer. Puts (g.W.Sink.written c.args.writer.now) (g.W.Sink.written c.put_answer.new.writer)
    (shown c.args.form c.as_slice-3.result.now answer) true) c.as_slice-2.ensures.value
    c.if-not-put_answer.ensures))
