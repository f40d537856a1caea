use Rattle.swim_commands.specs.Forms.{table_line, tables_text}
use Rattle.swim_commands.proofs.LineTexts.{one_written, write_failed}
use Rattle.swim_commands.proofs.member_tables.put_tables.Goals as goal

pub returns-then-not-put_row : goal.returns-then-not-put_row
returns-then-not-put_row g c =
    write_failed table_line (tables_text c.args.answer.now) c.in-Some.line.now c.loop-line.lines c.next.new.self
    (g.W.Sink.written c.args.writer.now) (g.W.Sink.written c.loop-line.writer) (g.W.Sink.written c.put_row.new.writer)
    c.loop-line.invariant c.in-Some.ensures c.if-not-put_row.ensures

pub loop-line-preserved : goal.loop-line-preserved
loop-line-preserved g c =
    one_written table_line (tables_text c.args.answer.now) c.in-Some.line.now c.loop-line.lines
    c.next.new.self (g.W.Sink.written c.args.writer.now) (g.W.Sink.written c.loop-line.writer)
    (g.W.Sink.written c.put_row.new.writer) c.loop-line.invariant c.in-Some.ensures c.if-not-put_row.ensures
