use Rattle.std.proofs.Common.{◌≡◌, ℕ, Bool, true, rules, subst, sym, ◌-◌}
use Rattle.swim_text.specs.Streams.{Puts}
use Rattle.swim_config.specs.Warnings.{has_few_relays, relays_text, text_if}
use Rattle.swim_config.proofs.warnings.put_few_relays.Goals as goal

pub returns-then-members-relays-clause-bytes : goal.returns-then-members-relays-clause-bytes
returns-then-members-relays-clause-bytes g c =
    let few : has_few_relays c.args.relays c.args.members ≡ true = search rules in
    let same : c.from-relays.result ≡ c.args.relays = search rules in
    let put = subst (λ (n : ℕ).
    Puts (g.W.Sink.written c.args.writer.now) (g.W.Sink.written c.put_relays_line.new.writer)
    (relays_text n (c.args.members - 1)) c.put_relays_line.result) same c.put_relays_line.ensures.bytes in
    subst (λ (b : Bool). Puts (g.W.Sink.written c.args.writer.now) (g.W.Sink.written c.put_relays_line.new.writer)
    (text_if b (relays_text c.args.relays (c.args.members - 1))) c.put_relays_line.result) (sym few) put
