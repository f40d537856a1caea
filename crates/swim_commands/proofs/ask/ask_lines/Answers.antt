use Rattle.std.proofs.Common.{◌||◌, Ok, Err, ap, subst, sym, ◌∙◌}
use Rattle.swim_commands.specs.Answers.{is_stopping}
use Rattle.swim_commands.specs.Asking.{Asking, Passes}
use Rattle.swim_commands.specs.Forms.{is_unmet}
use Rattle.swim_commands.proofs.Exchanges.{ends_broken, ends_stopped, goes_on, one_more_asked}
use Rattle.swim_commands.proofs.ask.ask_lines.Goals as goal

pub returns-in-Err : goal.returns-in-Err
returns-in-Err g c =
    ends_broken c.args.form
    (record {
      left = g.S.Source.left c.args.reader.now;
      written = g.W.Sink.written c.args.writer.now;
      asked = g.A.Asker.asked c.args.asker.now;
    })
    (g.S.Source.left c.loop-turn.reader) (g.S.Source.left c.read_line.new.reader)
    (g.W.Sink.written c.loop-turn.writer) (g.W.Sink.written c.pass.new.writer)
    (g.A.Asker.asked c.loop-turn.asker) (g.A.Asker.asked c.pass.new.asker)
    c.read_line.new.line.items c.pass.new.answer.items c.loop-turn.is_refused c.in-Err.outcome
    c.loop-turn.invariant c.in-Line.ensures
    (subst (λ line. Passes c.args.form line (Err c.in-Err.outcome) c.pass.new.answer.items
    (g.W.Sink.written c.loop-turn.writer)
    (g.W.Sink.written c.pass.new.writer)
    (g.A.Asker.asked c.loop-turn.asker) (g.A.Asker.asked c.pass.new.asker)) c.as_slice.ensures.value c.in-Err.ensures)

pub returns-then-is_stopping : goal.returns-then-is_stopping
returns-then-is_stopping g c =
    subst (λ outcome. Asking c.args.form
    (record {
      left = g.S.Source.left c.args.reader.now;
      written = g.W.Sink.written c.args.writer.now;
      asked = g.A.Asker.asked c.args.asker.now;
    })
    (record {
      left = g.S.Source.left c.read_line.new.reader;
      written = g.W.Sink.written c.pass.new.writer;
      asked = g.A.Asker.asked c.leave.new.self;
    }) outcome)
    (sym c.stopped.ensures)
    (ends_stopped c.args.form
    (record {
      left = g.S.Source.left c.args.reader.now;
      written = g.W.Sink.written c.args.writer.now;
      asked = g.A.Asker.asked c.args.asker.now;
    })
    (g.S.Source.left c.read_line.new.reader) (g.W.Sink.written c.pass.new.writer) (g.A.Asker.asked c.pass.new.asker)
    (g.A.Asker.asked c.leave.new.self) c.is_either-is_refused.result c.pass.new.answer.items c.leave.result
    (one_more_asked c.args.form
    (record {
      left = g.S.Source.left c.args.reader.now;
      written = g.W.Sink.written c.args.writer.now;
      asked = g.A.Asker.asked c.args.asker.now;
    })
    (g.S.Source.left c.loop-turn.reader) (g.S.Source.left c.read_line.new.reader)
    (g.W.Sink.written c.loop-turn.writer) (g.W.Sink.written c.pass.new.writer)
    (g.A.Asker.asked c.loop-turn.asker) (g.A.Asker.asked c.pass.new.asker)
    c.read_line.new.line.items c.pass.new.answer.items c.loop-turn.is_refused c.is_either-is_refused.result
    c.loop-turn.invariant c.in-Line.ensures
    (subst (λ line. Passes c.args.form line (Ok tt) c.pass.new.answer.items (g.W.Sink.written c.loop-turn.writer)
    (g.W.Sink.written c.pass.new.writer)
    (g.A.Asker.asked c.loop-turn.asker) (g.A.Asker.asked c.pass.new.asker)) c.as_slice.ensures.value
    c.in_default.ensures)
    (c.is_either-is_refused.ensures ∙
    ap (λ b. c.loop-turn.is_refused || b)
    (c.is_unmet.ensures ∙ ap (is_unmet c.args.form) c.as_slice-in-loop-turn.ensures.value)))
    (ap is_stopping (sym c.as_slice-in-loop-turn-2.ensures.value) ∙ sym c.is_stopping.ensures ∙ c.if-is_stopping.true)
    c.leave.ensures)

pub loop-turn-preserved : goal.loop-turn-preserved
loop-turn-preserved g c =
    goes_on c.args.form
    (record {
      left = g.S.Source.left c.args.reader.now;
      written = g.W.Sink.written c.args.writer.now;
      asked = g.A.Asker.asked c.args.asker.now;
    })
    (record {
      left = g.S.Source.left c.read_line.new.reader;
      written = g.W.Sink.written c.pass.new.writer;
      asked = g.A.Asker.asked c.pass.new.asker;
    })
    c.is_either-is_refused.result c.pass.new.answer.items
    (one_more_asked c.args.form
    (record {
      left = g.S.Source.left c.args.reader.now;
      written = g.W.Sink.written c.args.writer.now;
      asked = g.A.Asker.asked c.args.asker.now;
    })
    (g.S.Source.left c.loop-turn.reader) (g.S.Source.left c.read_line.new.reader)
    (g.W.Sink.written c.loop-turn.writer) (g.W.Sink.written c.pass.new.writer)
    (g.A.Asker.asked c.loop-turn.asker) (g.A.Asker.asked c.pass.new.asker)
    c.read_line.new.line.items c.pass.new.answer.items c.loop-turn.is_refused c.is_either-is_refused.result
    c.loop-turn.invariant c.in-Line.ensures
    (subst (λ line. Passes c.args.form line (Ok tt) c.pass.new.answer.items (g.W.Sink.written c.loop-turn.writer)
    (g.W.Sink.written c.pass.new.writer)
    (g.A.Asker.asked c.loop-turn.asker) (g.A.Asker.asked c.pass.new.asker)) c.as_slice.ensures.value
    c.in_default.ensures)
    (c.is_either-is_refused.ensures ∙
    ap (λ b. c.loop-turn.is_refused || b)
    (c.is_unmet.ensures ∙ ap (is_unmet c.args.form) c.as_slice-in-loop-turn.ensures.value)))
