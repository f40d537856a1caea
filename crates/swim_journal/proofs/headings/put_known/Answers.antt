use Rattle.std.proofs.Common.{refl, ◌++◌}
use Rattle.swim_text.specs.TwoPuts.{first_failed, both_put}
use Rattle.swim_journal.specs.Headings.{row_lines, seed_line}
use Rattle.swim_journal.proofs.headings.put_known.Goals as goal

pub returns-then-not-put_rows-clause-bytes : goal.returns-then-not-put_rows-clause-bytes
returns-then-not-put_rows-clause-bytes g c =
    first_failed (g.W.Sink.written c.args.writer.now) (g.W.Sink.written c.put_rows.new.writer)
    (row_lines c.args.rows.now) (seed_line c.args.seed.now c.args.life)
    (row_lines c.args.rows.now ++ (seed_line c.args.seed.now c.args.life)) refl c.if-not-put_rows.ensures.bytes

pub returns-clause-bytes : goal.returns-clause-bytes
returns-clause-bytes g c =
    both_put (g.W.Sink.written c.args.writer.now) (g.W.Sink.written c.put_rows.new.writer)
    (g.W.Sink.written c.put_seed.new.writer) (row_lines c.args.rows.now) (seed_line c.args.seed.now c.args.life)
    (row_lines c.args.rows.now ++ (seed_line c.args.seed.now c.args.life)) c.put_seed.result refl
    c.if-not-put_rows.ensures.bytes c.put_seed.ensures.bytes
