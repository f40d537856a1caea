use Rattle.std.proofs.Common.{refl, ap, ◌++◌, ◌∙◌}
use Rattle.swim_text.specs.TwoPuts.{first_failed, both_put}
use Rattle.swim_journal.specs.Headings.{wire_text, row_lines, seed_line}
use Rattle.swim_journal.proofs.headings.put_behind_open.Goals as goal

pub returns-then-not-put-clause-bytes : goal.returns-then-not-put-clause-bytes
returns-then-not-put-clause-bytes g c =
    let wire = c.wire_text.ensures ∙ ap wire_text c.version.ensures in
    first_failed (g.W.Sink.written c.args.writer.now) (g.W.Sink.written c.put.new.self)
    (wire_text c.args.opening.now.version)
    (row_lines c.args.opening.now.rows ++ seed_line c.args.seed.now c.args.life)
    (wire_text c.args.opening.now.version ++
    (row_lines c.args.opening.now.rows ++ seed_line c.args.seed.now c.args.life)) refl
    (rw wire at c.if-not-put.ensures.bytes)

pub returns-clause-bytes : goal.returns-clause-bytes
returns-clause-bytes g c =
    let wire = c.wire_text.ensures ∙ ap wire_text c.version.ensures in
    both_put (g.W.Sink.written c.args.writer.now) (g.W.Sink.written c.put.new.self)
    (g.W.Sink.written c.put_known.new.writer) (wire_text c.args.opening.now.version)
    (row_lines c.args.opening.now.rows ++ seed_line c.args.seed.now c.args.life)
    (wire_text c.args.opening.now.version ++
    (row_lines c.args.opening.now.rows ++ seed_line c.args.seed.now c.args.life)) c.put_known.result refl
    (rw wire at c.if-not-put.ensures.bytes) (rw (← c.rows.ensures.value) c.put_known.ensures.bytes)
