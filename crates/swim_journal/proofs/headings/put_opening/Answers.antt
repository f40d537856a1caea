use Rattle.std.proofs.Common.{refl, ◌++◌}
use Rattle.swim_text.specs.TwoPuts.{first_failed, both_put}
use Rattle.swim_journal.specs.Headings.{open_line, wire_text, row_lines, seed_line}
use Rattle.swim_journal.proofs.headings.put_opening.Goals as goal

pub returns-then-not-put_open-clause-bytes : goal.returns-then-not-put_open-clause-bytes
returns-then-not-put_open-clause-bytes g c =
    first_failed (g.W.Sink.written c.args.writer.now) (g.W.Sink.written c.put_open.new.writer)
    (open_line c.args.opening.now c.args.limit)
    (wire_text c.args.opening.now.version ++
    (row_lines c.args.opening.now.rows ++ seed_line c.args.seed.now c.args.life))
    (open_line c.args.opening.now c.args.limit ++
    (wire_text c.args.opening.now.version ++
    (row_lines c.args.opening.now.rows ++ seed_line c.args.seed.now c.args.life))) refl c.if-not-put_open.ensures.bytes

pub returns-clause-bytes : goal.returns-clause-bytes
returns-clause-bytes g c =
    both_put (g.W.Sink.written c.args.writer.now) (g.W.Sink.written c.put_open.new.writer)
    (g.W.Sink.written c.put_behind_open.new.writer) (open_line c.args.opening.now c.args.limit)
    (wire_text c.args.opening.now.version ++
    (row_lines c.args.opening.now.rows ++ seed_line c.args.seed.now c.args.life))
    (open_line c.args.opening.now c.args.limit ++
    (wire_text c.args.opening.now.version ++
    (row_lines c.args.opening.now.rows ++ seed_line c.args.seed.now c.args.life))) c.put_behind_open.result refl
    c.if-not-put_open.ensures.bytes c.put_behind_open.ensures.bytes
