use Rattle.std.proofs.Common.{sym, ap, decimal}
use Rattle.swim_script.specs.Texts.{relays_text, more_relays_text}
use Rattle.swim_text.specs.TwoPuts.{first_failed, both_put, first_and_others, others_of}
use Rattle.swim_script.proofs.answers.put_relays.Goals as goal

pub returns-then-not-put_number-clause-bytes : goal.returns-then-not-put_number-clause-bytes
returns-then-not-put_number-clause-bytes g c =
    first_failed (g.W.Sink.written c.args.writer.now) (g.W.Sink.written c.put_number.new.writer) (decimal c.from.result)
    (more_relays_text (others_of c.args.relays.now)) (relays_text c.args.relays.now)
    (rw (c.from.ensures, c.get.ensures.value)
    (ap relays_text (sym (first_and_others c.args.relays.now c.first-item.result c.in-len1-up.len_at_least
    c.first-item.is)))) c.if-not-put_number.ensures.bytes

pub returns-clause-bytes : goal.returns-clause-bytes
returns-clause-bytes g c =
    both_put (g.W.Sink.written c.args.writer.now) (g.W.Sink.written c.put_number.new.writer)
    (g.W.Sink.written c.put_more_relays.new.writer) (decimal c.from.result)
    (more_relays_text (others_of c.args.relays.now)) (relays_text c.args.relays.now) c.put_more_relays.result
    (rw (c.from.ensures, c.get.ensures.value)
    (ap relays_text (sym (first_and_others c.args.relays.now c.first-item.result c.in-len1-up.len_at_least
    c.first-item.is)))) c.if-not-put_number.ensures.bytes c.put_more_relays.ensures.bytes
