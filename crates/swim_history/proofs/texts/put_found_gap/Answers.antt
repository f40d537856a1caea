use Rattle.std.proofs.Common.{Some, false, ◌++◌, codes, decimal}
use Rattle.std.proofs.lemmas.List.{append_assoc}
use Rattle.swim_history.specs.Texts.{feed, gap_text}
use Rattle.swim_text.specs.TwoPuts.{first_failed, both_put}
use Rattle.swim_history.proofs.texts.put_found_gap.Goals as goal

pub returns-then-not-put_numbered-clause-bytes : goal.returns-then-not-put_numbered-clause-bytes
returns-then-not-put_numbered-clause-bytes g c =
    let gap = c.args.gap in
    let last = codes " " ++ (decimal gap.n ++ feed) in
    let later = codes " " ++ (decimal gap.b ++ last) in
    first_failed (g.W.Sink.written c.args.writer.now) (g.W.Sink.written c.put_numbered.new.writer)
    (codes "gap " ++ decimal gap.a) later (gap_text (Some gap)) (append_assoc (codes "gap ") (decimal gap.a) later)
    c.if-not-put_numbered.ensures.bytes

pub returns-then-not-put_numbered-2-clause-bytes : goal.returns-then-not-put_numbered-2-clause-bytes
returns-then-not-put_numbered-2-clause-bytes g c =
    let gap = c.args.gap in
    let last = codes " " ++ (decimal gap.n ++ feed) in
    let later = codes " " ++ (decimal gap.b ++ last) in
    both_put (g.W.Sink.written c.args.writer.now) (g.W.Sink.written c.put_numbered.new.writer)
    (g.W.Sink.written c.put_numbered-2.new.writer) (codes "gap " ++ decimal gap.a) later (gap_text (Some gap)) false
    (append_assoc (codes "gap ") (decimal gap.a) later) c.if-not-put_numbered.ensures.bytes
    (first_failed (g.W.Sink.written c.put_numbered.new.writer) (g.W.Sink.written c.put_numbered-2.new.writer)
    (codes " " ++ decimal gap.b) last later (append_assoc (codes " ") (decimal gap.b) last)
    c.if-not-put_numbered-2.ensures.bytes)

pub returns-then-not-put_numbered-3-clause-bytes : goal.returns-then-not-put_numbered-3-clause-bytes
returns-then-not-put_numbered-3-clause-bytes g c =
    let gap = c.args.gap in
    let last = codes " " ++ (decimal gap.n ++ feed) in
    let later = codes " " ++ (decimal gap.b ++ last) in
    both_put (g.W.Sink.written c.args.writer.now) (g.W.Sink.written c.put_numbered.new.writer)
    (g.W.Sink.written c.put_numbered-3.new.writer) (codes "gap " ++ decimal gap.a) later (gap_text (Some gap)) false
    (append_assoc (codes "gap ") (decimal gap.a) later) c.if-not-put_numbered.ensures.bytes
    (both_put (g.W.Sink.written c.put_numbered.new.writer) (g.W.Sink.written c.put_numbered-2.new.writer)
    (g.W.Sink.written c.put_numbered-3.new.writer) (codes " " ++ decimal gap.b) last later false
    (append_assoc (codes " ") (decimal gap.b) last) c.if-not-put_numbered-2.ensures.bytes
    (first_failed (g.W.Sink.written c.put_numbered-2.new.writer) (g.W.Sink.written c.put_numbered-3.new.writer)
    (codes " " ++ decimal gap.n) feed last (append_assoc (codes " ") (decimal gap.n) feed)
    c.if-not-put_numbered-3.ensures.bytes))

pub returns-clause-bytes : goal.returns-clause-bytes
returns-clause-bytes g c =
    let gap = c.args.gap in
    let last = codes " " ++ (decimal gap.n ++ feed) in
    let later = codes " " ++ (decimal gap.b ++ last) in
    both_put (g.W.Sink.written c.args.writer.now) (g.W.Sink.written c.put_numbered.new.writer)
    (g.W.Sink.written c.put.new.self) (codes "gap " ++ decimal gap.a) later (gap_text (Some gap)) c.put.result
    (append_assoc (codes "gap ") (decimal gap.a) later) c.if-not-put_numbered.ensures.bytes
    (both_put (g.W.Sink.written c.put_numbered.new.writer) (g.W.Sink.written c.put_numbered-2.new.writer)
    (g.W.Sink.written c.put.new.self) (codes " " ++ decimal gap.b) last later c.put.result
    (append_assoc (codes " ") (decimal gap.b) last) c.if-not-put_numbered-2.ensures.bytes
    (both_put (g.W.Sink.written c.put_numbered-2.new.writer) (g.W.Sink.written c.put_numbered-3.new.writer)
    (g.W.Sink.written c.put.new.self) (codes " " ++ decimal gap.n) feed last c.put.result
    (append_assoc (codes " ") (decimal gap.n) feed) c.if-not-put_numbered-3.ensures.bytes c.put.ensures.bytes))
