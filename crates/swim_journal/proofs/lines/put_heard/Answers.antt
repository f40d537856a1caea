use Rattle.std.proofs.Common.{List, ℕ, subst, ◌∙◌}
use Rattle.swim_text.specs.Streams.{Puts}
use Rattle.swim_journal.proofs.Back.{hear_line}
use Rattle.swim_journal.proofs.lines.put_heard.Goals as goal

pub returns-clause-bytes : goal.returns-clause-bytes
returns-clause-bytes g c =
    subst (λ (t : List ℕ). Puts (g.W.Sink.written c.args.writer.now) (g.W.Sink.written c.put_pieces.new.writer) t
    c.put_pieces.result) (hear_line c.args.message.now c.args.source.now)
    (rw (c.as_slice.ensures.value ∙ c.datagram_line-datagram.ensures) at c.put_pieces.ensures.bytes)
