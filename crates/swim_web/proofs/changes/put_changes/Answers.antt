use Rattle.std.proofs.Common.{◌++◌, [], codes, false, map, subst, true}
use Rattle.swim_text.specs.Streams.{Puts, puts_less, puts_then}
use Rattle.swim_web.specs.Changes.{changes_lead, lines_after}
use Rattle.swim_web.proofs.changes.put_changes.Goals as goal

pub returns-then-not-put : goal.returns-then-not-put
returns-then-not-put g c =
    puts_less (g.W.Sink.written c.args.writer.now) (g.W.Sink.written c.put.new.self) (changes_lead c.args.is_explained)
    (lines_after [] (map (λ l. l.items) c.args.lines.now) ++ codes "]}\n")
    (subst (λ text. Puts (g.W.Sink.written c.args.writer.now) (g.W.Sink.written c.put.new.self) text false)
    c.lead_for.ensures c.if-not-put.ensures.bytes)

pub returns-then-not-put_lines : goal.returns-then-not-put_lines
returns-then-not-put_lines g c =
    puts_then (g.W.Sink.written c.args.writer.now) (g.W.Sink.written c.put.new.self)
    (g.W.Sink.written c.put_lines.new.writer) (changes_lead c.args.is_explained)
    (lines_after [] (map (λ l. l.items) c.args.lines.now) ++ codes "]}\n") false
    (subst (λ text. Puts (g.W.Sink.written c.args.writer.now) (g.W.Sink.written c.put.new.self) text true)
    c.lead_for.ensures c.if-not-put.ensures.bytes)
    (puts_less (g.W.Sink.written c.put.new.self) (g.W.Sink.written c.put_lines.new.writer)
    (lines_after [] (map (λ l. l.items) c.args.lines.now)) (codes "]}\n") c.if-not-put_lines.ensures)

pub returns : goal.returns
returns g c =
    puts_then (g.W.Sink.written c.args.writer.now) (g.W.Sink.written c.put.new.self)
    (g.W.Sink.written c.put-2.new.self) (changes_lead c.args.is_explained)
    (lines_after [] (map (λ l. l.items) c.args.lines.now) ++ codes "]}\n") c.put-2.result
    (subst (λ text. Puts (g.W.Sink.written c.args.writer.now) (g.W.Sink.written c.put.new.self) text true)
    c.lead_for.ensures c.if-not-put.ensures.bytes)
    (puts_then (g.W.Sink.written c.put.new.self) (g.W.Sink.written c.put_lines.new.writer)
    (g.W.Sink.written c.put-2.new.self) (lines_after [] (map (λ l. l.items) c.args.lines.now))
    (codes "]}\n") c.put-2.result c.if-not-put_lines.ensures c.put-2.ensures.bytes)
