use Rattle.std.proofs.Common.{◌≡◌, ℕ, rules, subst}
use Rattle.swim_text.specs.Streams.{Puts}
use Rattle.swim_config.specs.Warnings.{own_line}
use Rattle.swim_config.proofs.warnings.put_own_line.Goals as goal

pub returns-clause-bytes : goal.returns-clause-bytes
returns-clause-bytes g c =
    let same : c.from.result ≡ c.args.id = search rules in
    subst (λ (n : ℕ). Puts (g.W.Sink.written c.args.writer.now) (g.W.Sink.written c.put_pieces.new.writer)
    (own_line n c.args.listen.now) c.put_pieces.result) same c.put_pieces.ensures.bytes
