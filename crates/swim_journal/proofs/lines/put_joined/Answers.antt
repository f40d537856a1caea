use Rattle.std.proofs.Common.{◌≡◌, ℕ, List, subst, rules}
use Rattle.swim_text.specs.Streams.{Puts}
use Rattle.swim_history.specs.declared.calls.Call.TheVariants.{Join}
use Rattle.swim_journal.specs.Lines.{call_line}
use Rattle.swim_journal.proofs.Back.{join_line}
use Rattle.swim_journal.proofs.lines.put_joined.Goals as goal

pub returns-clause-bytes : goal.returns-clause-bytes
returns-clause-bytes g c =
    let same : c.from.result ≡ c.args.id = search rules in
    let line = subst (λ (t : List ℕ).
    Puts (g.W.Sink.written c.args.writer.now) (g.W.Sink.written c.put_pieces.new.writer) t c.put_pieces.result)
    (join_line c.from.result c.args.peer) c.put_pieces.ensures.bytes in
    subst (λ (id : ℕ). Puts (g.W.Sink.written c.args.writer.now) (g.W.Sink.written c.put_pieces.new.writer)
    (call_line (Join id c.args.peer)) c.put_pieces.result) same line
