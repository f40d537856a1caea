use Rattle.std.proofs.Common.{◌≡◌, ℕ, rules, subst}
use Rattle.swim_text.specs.Streams.{Puts}
use Rattle.swim_config.specs.Warnings.{shared_line}
use Rattle.swim_config.proofs.warnings.put_shared_line.Goals as goal

pub returns-clause-bytes : goal.returns-clause-bytes
returns-clause-bytes g c =
    let one : c.from.result ≡ c.args.first = search rules in
    let two : c.from-2.result ≡ c.args.second = search rules in
    let put = subst (λ (n : ℕ). Puts (g.W.Sink.written c.args.writer.now) (g.W.Sink.written c.put_pieces.new.writer)
    (shared_line n c.from-2.result c.args.at.now) c.put_pieces.result) one c.put_pieces.ensures.bytes in
    subst (λ (n : ℕ). Puts (g.W.Sink.written c.args.writer.now) (g.W.Sink.written c.put_pieces.new.writer)
    (shared_line c.args.first n c.args.at.now) c.put_pieces.result) two put
