use Rattle.std.proofs.Common.{◌≡◌, ℕ, Bool, true, rules, subst, sym, nat_lt}
use Rattle.swim_text.specs.Streams.{Puts}
use Rattle.swim_config.specs.Warnings.{flood_text, text_if}
use Rattle.swim_config.proofs.warnings.put_short_for_a_flood.Goals as goal

pub returns-then-journal-entries-clause-bytes : goal.returns-then-journal-entries-clause-bytes
returns-then-journal-entries-clause-bytes g c =
    let less : nat_lt c.args.journal c.args.entries ≡ true = search rules in
    let same : c.from-journal.result ≡ c.args.journal = search rules in
    let rate : c.from.result ≡ c.args.rate = search rules in
    let put = subst (λ (n : ℕ). Puts (g.W.Sink.written c.args.writer.now) (g.W.Sink.written c.put_flood_line.new.writer)
    (flood_text n c.from.result c.args.entries) c.put_flood_line.result) same c.put_flood_line.ensures.bytes in
    let rated = subst (λ (n : ℕ).
    Puts (g.W.Sink.written c.args.writer.now) (g.W.Sink.written c.put_flood_line.new.writer)
    (flood_text c.args.journal n c.args.entries) c.put_flood_line.result) rate put in
    subst (λ (b : Bool). Puts (g.W.Sink.written c.args.writer.now) (g.W.Sink.written c.put_flood_line.new.writer)
    (text_if b (flood_text c.args.journal c.args.rate c.args.entries)) c.put_flood_line.result) (sym less) rated
