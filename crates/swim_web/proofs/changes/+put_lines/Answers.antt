use Rattle.std.proofs.Common.{◌++◌, true, false, sym, ap, codes, subst, map}
use Rattle.swim_text.specs.Streams.{Puts}
use Rattle.swim_text.specs.TwoPuts.{first_failed, both_put, first_and_others, others_of}
use Rattle.swim_web.specs.Changes.{lines_after}
use Rattle.swim_web.proofs.changes.+put_lines.Goals as goal

pub returns-then-not-put_line : goal.returns-then-not-put_line
returns-then-not-put_line g t c =
    first_failed (g.W.Sink.written c.args.writer.now) (g.W.Sink.written c.put_line.new.writer)
    (c.args.lead.now ++ c.first-item.result.items)
    (lines_after (codes ",") (map (λ l. l.items) (others_of c.args.lines.now)))
    (lines_after c.args.lead.now (map (λ l. l.items) c.args.lines.now))
    (ap (λ ls. lines_after c.args.lead.now (map (λ l. l.items) ls))
    (sym (first_and_others c.args.lines.now c.first-item.result c.in-len1-up.len_at_least c.first-item.is)))
    (subst (λ line. Puts (g.W.Sink.written c.args.writer.now) (g.W.Sink.written c.put_line.new.writer)
    (c.args.lead.now ++ line) false) c.as_slice.ensures.value c.if-not-put_line.ensures)

pub returns : goal.returns
returns g t c =
    both_put (g.W.Sink.written c.args.writer.now) (g.W.Sink.written c.put_line.new.writer)
    (g.W.Sink.written c.put_lines.new.writer) (c.args.lead.now ++ c.first-item.result.items)
    (lines_after (codes ",") (map (λ l. l.items) (others_of c.args.lines.now)))
    (lines_after c.args.lead.now (map (λ l. l.items) c.args.lines.now)) c.put_lines.result
    (ap (λ ls. lines_after c.args.lead.now (map (λ l. l.items) ls))
    (sym (first_and_others c.args.lines.now c.first-item.result c.in-len1-up.len_at_least c.first-item.is)))
    (subst (λ line. Puts (g.W.Sink.written c.args.writer.now) (g.W.Sink.written c.put_line.new.writer)
    (c.args.lead.now ++ line) true) c.as_slice.ensures.value c.if-not-put_line.ensures) c.put_lines.ensures
