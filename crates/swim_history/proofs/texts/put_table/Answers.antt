use Rattle.std.proofs.Common.{refl, codes}
use Rattle.swim_history.specs.Texts.{rows_text, table_text}
use Rattle.swim_text.specs.TwoPuts.{first_failed, both_put}
use Rattle.swim_history.proofs.texts.put_table.Goals as goal

pub returns-then-not-put_rows-clause-bytes : goal.returns-then-not-put_rows-clause-bytes
returns-then-not-put_rows-clause-bytes g c =
    first_failed (g.W.Sink.written c.args.writer.now) (g.W.Sink.written c.put_rows.new.writer)
    (rows_text c.args.rows.now) (codes ".\n") (table_text c.args.rows.now) refl c.if-not-put_rows.ensures.bytes

pub returns-clause-bytes : goal.returns-clause-bytes
returns-clause-bytes g c =
    both_put (g.W.Sink.written c.args.writer.now) (g.W.Sink.written c.put_rows.new.writer)
    (g.W.Sink.written c.put.new.self) (rows_text c.args.rows.now) (codes ".\n") (table_text c.args.rows.now)
    c.put.result refl c.if-not-put_rows.ensures.bytes c.put.ensures.bytes
