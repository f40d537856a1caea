use Rattle.std.proofs.Common.{ℕ, List, false, true, ◌++◌, codes, sym, ap, subst, ◌∙◌}
use Rattle.swim_wire.specs.Address.{address_text}
use Rattle.swim_text.specs.Streams.{Puts}
use Rattle.swim_script.specs.Texts.{send_text, sends_text}
use Rattle.swim_text.specs.TwoPuts.{first_failed, both_put, first_and_others, others_of}
use Rattle.swim_script.proofs.answers.put_sends.Goals as goal

pub returns-then-not-put_spelled-clause-bytes : goal.returns-then-not-put_spelled-clause-bytes
returns-then-not-put_spelled-clause-bytes g c =
    let W = g.W.Sink.written c.args.writer.now in
    let new = g.W.Sink.written c.put_spelled.new.writer in
    let line = ap (λ (t : List ℕ). codes "> " ++ (address_text c.first-item.result.0 ++ t))
    (c.as_slice.ensures.value ∙ c.datagram_line-line.ensures) in
    first_failed W new (send_text c.first-item.result) (sends_text (others_of c.args.sent.now))
    (sends_text c.args.sent.now)
    (ap sends_text (sym (first_and_others c.args.sent.now c.first-item.result c.in-len1-up.len_at_least
    c.first-item.is))) (subst (λ (t : List ℕ). Puts W new t false) line c.if-not-put_spelled.ensures.bytes)

pub returns-clause-bytes : goal.returns-clause-bytes
returns-clause-bytes g c =
    let W = g.W.Sink.written c.args.writer.now in
    let new = g.W.Sink.written c.put_spelled.new.writer in
    let line = ap (λ (t : List ℕ). codes "> " ++ (address_text c.first-item.result.0 ++ t))
    (c.as_slice.ensures.value ∙ c.datagram_line-line.ensures) in
    both_put W new (g.W.Sink.written c.put_alike.new.writer) (send_text c.first-item.result)
    (sends_text (others_of c.args.sent.now)) (sends_text c.args.sent.now) c.put_alike.result
    (ap sends_text (sym (first_and_others c.args.sent.now c.first-item.result c.in-len1-up.len_at_least
    c.first-item.is))) (subst (λ (t : List ℕ). Puts W new t true) line c.if-not-put_spelled.ensures.bytes)
    c.put_alike.ensures.bytes
