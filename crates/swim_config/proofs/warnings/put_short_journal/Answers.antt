use Rattle.std.proofs.Common.{◌≡◌, ℕ, Bool, true, rules, subst, sym, nat_lt}
use Rattle.swim_text.specs.Streams.{Puts}
use Rattle.swim_config.specs.Warnings.{journal_text, text_if}
use Rattle.swim_config.proofs.warnings.put_short_journal.Goals as goal

pub returns-then-journal-wanted-clause-bytes : goal.returns-then-journal-wanted-clause-bytes
returns-then-journal-wanted-clause-bytes g c =
    let less : nat_lt c.args.journal c.args.wanted ≡ true = search rules in
    let same : c.from-journal.result ≡ c.args.journal = search rules in
    let put = subst (λ (n : ℕ).
    Puts (g.W.Sink.written c.args.writer.now) (g.W.Sink.written c.put_journal_line.new.writer)
    (journal_text n c.args.wanted) c.put_journal_line.result) same c.put_journal_line.ensures.bytes in
    subst (λ (b : Bool). Puts (g.W.Sink.written c.args.writer.now) (g.W.Sink.written c.put_journal_line.new.writer)
    (text_if b (journal_text c.args.journal c.args.wanted)) c.put_journal_line.result) (sym less) put
