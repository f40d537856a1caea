use Rattle.std.proofs.Common.{sym, ap}
use Rattle.swim_history.specs.Texts.{row_text, rows_text}
use Rattle.swim_text.specs.TwoPuts.{first_failed, both_put, first_and_others, others_of}
use Rattle.swim_history.proofs.texts.+put_rows.Goals as goal

pub returns-then-not-put_row-clause-bytes : goal.returns-then-not-put_row-clause-bytes
returns-then-not-put_row-clause-bytes g t c =
    first_failed (g.W.Sink.written c.args.writer.now) (g.W.Sink.written c.put_row.new.writer)
    (row_text c.first-item.result) (rows_text (others_of c.args.rows.now)) (rows_text c.args.rows.now)
    (ap rows_text (sym (first_and_others c.args.rows.now c.first-item.result c.in-len1-up.len_at_least
    c.first-item.is))) c.if-not-put_row.ensures.bytes

pub returns-clause-bytes : goal.returns-clause-bytes
returns-clause-bytes g t c =
    both_put (g.W.Sink.written c.args.writer.now) (g.W.Sink.written c.put_row.new.writer)
    (g.W.Sink.written c.put_rows.new.writer) (row_text c.first-item.result) (rows_text (others_of c.args.rows.now))
    (rows_text c.args.rows.now) c.put_rows.result
    (ap rows_text (sym (first_and_others c.args.rows.now c.first-item.result c.in-len1-up.len_at_least
    c.first-item.is))) c.if-not-put_row.ensures.bytes c.put_rows.ensures.bytes
