use Rattle.swim_text.specs.TwoPuts.{first_failed, both_put, others_of}
use Rattle.swim_chart.specs.Frame.{escaped}
use Rattle.swim_chart.proofs.Firsts.{first_escaped}
use Rattle.swim_chart.proofs.escapes.+put_escaped.Goals as goal

pub returns-then-not-put_character-clause-bytes : goal.returns-then-not-put_character-clause-bytes
returns-then-not-put_character-clause-bytes g t c =
    first_failed (g.W.Sink.written c.args.writer.now) (g.W.Sink.written c.put_character.new.writer) _
    (escaped (others_of c.args.text.now)) (escaped c.args.text.now)
    (first_escaped c.args.text.now _ c.in-len1-up.len_at_least)
    c.if-not-put_character.ensures.bytes

pub returns-clause-bytes : goal.returns-clause-bytes
returns-clause-bytes g t c =
    both_put (g.W.Sink.written c.args.writer.now) (g.W.Sink.written c.put_character.new.writer)
    (g.W.Sink.written c.put_escaped.new.writer) _
    (escaped (others_of c.args.text.now)) (escaped c.args.text.now) c.put_escaped.result
    (first_escaped c.args.text.now _ c.in-len1-up.len_at_least)
    c.if-not-put_character.ensures.bytes c.put_escaped.ensures.bytes
