use Rattle.std.proofs.Common.{List, subst, ℕ, arith}
use Rattle.swim_text.specs.Streams.{Puts}
use Rattle.swim_metrics.specs.Families.{key_samples}
use Rattle.swim_metrics.specs.Texts.{samples_text}
use Rattle.swim_metrics.proofs.key_samples.put_keys.Goals as goal

pub put_keys_behind-requires : goal.put_keys_behind-requires
put_keys_behind-requires g c = omega (arith, c.as_slice.ensures.fits)

pub returns-clause-bytes : goal.returns-clause-bytes
returns-clause-bytes g c =
    let P : List (List ℕ) → Type 0 =
    λ keys. Puts (g.W.Sink.written c.args.writer.now) (g.W.Sink.written c.put_keys_behind.new.writer)
    (samples_text c.args.series.now.me c.args.series.now.name.now (key_samples 0 keys)) c.put_keys_behind.result in
    subst P c.as_slice.ensures.value c.put_keys_behind.ensures.bytes
