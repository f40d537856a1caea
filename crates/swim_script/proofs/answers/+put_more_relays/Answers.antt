use Rattle.std.proofs.Common.{sym, ap, ◌++◌, decimal, codes}
use Rattle.swim_script.specs.Texts.{more_relays_text}
use Rattle.swim_text.specs.TwoPuts.{first_failed, both_put, first_and_others, others_of}
use Rattle.swim_script.proofs.answers.+put_more_relays.Goals as goal

pub returns-then-not-put_numbered-clause-bytes : goal.returns-then-not-put_numbered-clause-bytes
returns-then-not-put_numbered-clause-bytes g t c =
    first_failed (g.W.Sink.written c.args.writer.now) (g.W.Sink.written c.put_numbered.new.writer)
    (codes "," ++ decimal c.from.result) (more_relays_text (others_of c.args.relays.now))
    (more_relays_text c.args.relays.now)
    (rw (c.from.ensures, c.get.ensures.value)
    (ap more_relays_text (sym
    (first_and_others c.args.relays.now c.first-item.result c.in-len1-up.len_at_least c.first-item.is))))
    c.if-not-put_numbered.ensures.bytes

pub returns-clause-bytes : goal.returns-clause-bytes
returns-clause-bytes g t c =
    both_put (g.W.Sink.written c.args.writer.now) (g.W.Sink.written c.put_numbered.new.writer)
    (g.W.Sink.written c.put_more_relays.new.writer) (codes "," ++ decimal c.from.result)
    (more_relays_text (others_of c.args.relays.now)) (more_relays_text c.args.relays.now) c.put_more_relays.result
    (rw (c.from.ensures, c.get.ensures.value)
    (ap more_relays_text (sym
    (first_and_others c.args.relays.now c.first-item.result c.in-len1-up.len_at_least c.first-item.is))))
    c.if-not-put_numbered.ensures.bytes c.put_more_relays.ensures.bytes
