use Rattle.std.proofs.Common.{sym, ap, codes, ◌++◌}
use Rattle.swim_web.specs.Objects.{more_objects, row_object}
use Rattle.swim_text.specs.TwoPuts.{first_failed, both_put, first_and_others, others_of}
use Rattle.swim_web.proofs.objects.+put_more.Goals as goal

pub returns-then-not-put_row : goal.returns-then-not-put_row
returns-then-not-put_row g t c =
    first_failed (g.W.Sink.written c.args.writer.now) (g.W.Sink.written c.put_row.new.writer)
    (codes "," ++ row_object c.first-item.result) (more_objects (others_of c.args.rows.now))
    (more_objects c.args.rows.now)
    (ap more_objects (sym (first_and_others c.args.rows.now c.first-item.result c.in-len1-up.len_at_least
    c.first-item.is))) c.if-not-put_row.ensures

pub returns : goal.returns
returns g t c =
    both_put (g.W.Sink.written c.args.writer.now) (g.W.Sink.written c.put_row.new.writer)
    (g.W.Sink.written c.put_more.new.writer) (codes "," ++ row_object c.first-item.result)
    (more_objects (others_of c.args.rows.now))
    (more_objects c.args.rows.now) c.put_more.result
    (ap more_objects (sym (first_and_others c.args.rows.now c.first-item.result c.in-len1-up.len_at_least
    c.first-item.is))) c.if-not-put_row.ensures c.put_more.ensures
