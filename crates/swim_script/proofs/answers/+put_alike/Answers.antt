use Rattle.std.proofs.Common.{sym, ap}
use Rattle.swim_script.specs.Texts.{send_text, sends_text}
use Rattle.swim_text.specs.TwoPuts.{first_failed, both_put, first_and_others, others_of}
use Rattle.swim_script.proofs.answers.+put_alike.Goals as goal

pub returns-then-not-put_likely-clause-bytes : goal.returns-then-not-put_likely-clause-bytes
returns-then-not-put_likely-clause-bytes g t c =
    first_failed (g.W.Sink.written c.args.writer.now) (g.W.Sink.written c.put_likely.new.writer)
    (send_text c.first-item.result) (sends_text (others_of c.args.sent.now)) (sends_text c.args.sent.now)
    (ap sends_text (sym (first_and_others c.args.sent.now c.first-item.result c.in-len1-up.len_at_least
    c.first-item.is))) c.if-not-put_likely.ensures.bytes

pub returns-clause-bytes : goal.returns-clause-bytes
returns-clause-bytes g t c =
    both_put (g.W.Sink.written c.args.writer.now) (g.W.Sink.written c.put_likely.new.writer)
    (g.W.Sink.written c.put_alike.new.writer) (send_text c.first-item.result)
    (sends_text (others_of c.args.sent.now)) (sends_text c.args.sent.now) c.put_alike.result
    (ap sends_text (sym (first_and_others c.args.sent.now c.first-item.result c.in-len1-up.len_at_least
    c.first-item.is))) c.if-not-put_likely.ensures.bytes c.put_alike.ensures.bytes
