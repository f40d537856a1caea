use Rattle.std.proofs.Common.{◌≡◌, ◌++◌, ◌∙◌, ℕ, List, codes, subst}
use Rattle.swim_text.specs.Streams.{Puts}
use Rattle.swim_config.specs.Keys.{name_of}
use Rattle.swim_reload.proofs.reloaded.put_start.Goals as goal

pub returns-clause-bytes : goal.returns-clause-bytes
returns-clause-bytes g c =
    let named : c.as_bytes.result.now ≡ name_of c.args.key = c.as_bytes.ensures.value ∙ c.name.ensures in
    subst (λ (name : List ℕ). Puts (g.W.Sink.written c.args.writer.now) (g.W.Sink.written c.put_pieces.new.writer)
    (codes "; " ++ (name ++ codes " needs a start")) c.put_pieces.result) named c.put_pieces.ensures.bytes
