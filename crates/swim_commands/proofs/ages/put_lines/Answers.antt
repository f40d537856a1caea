use Rattle.std.proofs.Common.{Some}
use Rattle.swim_commands.specs.Ages.{aged, aged_line}
use Rattle.swim_commands.proofs.LineTexts.{one_written, write_failed}
use Rattle.swim_commands.proofs.ages.put_lines.Goals as goal

pub returns-then-not-put_line : goal.returns-then-not-put_line
returns-then-not-put_line g c =
    write_failed (aged_line c.args.periods.now) (aged (Some c.args.periods.now) c.args.answer.now) c.in-Some.line.now
    c.loop-line.lines c.next.new.self
    (g.W.Sink.written c.args.writer.now) (g.W.Sink.written c.loop-line.writer) (g.W.Sink.written c.put_line.new.writer)
    c.loop-line.invariant c.in-Some.ensures c.if-not-put_line.ensures

pub loop-line-preserved : goal.loop-line-preserved
loop-line-preserved g c =
    one_written (aged_line c.args.periods.now) (aged (Some c.args.periods.now) c.args.answer.now) c.in-Some.line.now
    c.loop-line.lines c.next.new.self (g.W.Sink.written c.args.writer.now) (g.W.Sink.written c.loop-line.writer)
    (g.W.Sink.written c.put_line.new.writer) c.loop-line.invariant c.in-Some.ensures c.if-not-put_line.ensures
