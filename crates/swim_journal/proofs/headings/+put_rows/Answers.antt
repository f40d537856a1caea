use Rattle.std.proofs.Common.{sym, ap}
use Rattle.swim_journal.specs.Headings.{row_line, row_lines}
use Rattle.swim_text.specs.TwoPuts.{first_failed, both_put, first_and_others, others_of}
use Rattle.swim_journal.proofs.headings.+put_rows.Goals as goal

pub returns-then-not-put_row-clause-bytes : goal.returns-then-not-put_row-clause-bytes
returns-then-not-put_row-clause-bytes g t c =
    first_failed (g.W.Sink.written c.args.writer.now) (g.W.Sink.written c.put_row.new.writer)
    (row_line c.first-item.result) (row_lines (others_of c.args.rows.now)) (row_lines c.args.rows.now)
    (ap row_lines (sym (first_and_others c.args.rows.now c.first-item.result c.in-len1-up.len_at_least
    c.first-item.is))) c.if-not-put_row.ensures.bytes

pub returns-clause-bytes : goal.returns-clause-bytes
returns-clause-bytes g t c =
    both_put (g.W.Sink.written c.args.writer.now) (g.W.Sink.written c.put_row.new.writer)
    (g.W.Sink.written c.put_rows.new.writer) (row_line c.first-item.result) (row_lines (others_of c.args.rows.now))
    (row_lines c.args.rows.now) c.put_rows.result
    (ap row_lines (sym (first_and_others c.args.rows.now c.first-item.result c.in-len1-up.len_at_least
    c.first-item.is))) c.if-not-put_row.ensures.bytes c.put_rows.ensures.bytes
