use Rattle.std.proofs.Common.{◌≡◌, ◌+◌, suc, arith}
use Rattle.swim_text.specs.TwoPuts.{first_failed, both_put, others_of}
use Rattle.swim_metrics.specs.Families.{key_samples}
use Rattle.swim_metrics.specs.Texts.{samples_text}
use Rattle.swim_metrics.proofs.Lines.{first_key}
use Rattle.swim_metrics.proofs.key_samples.+put_keys_behind.Goals as goal

pub returns-then-not-put_key-clause-bytes : goal.returns-then-not-put_key-clause-bytes
returns-then-not-put_key-clause-bytes g t c =
    let next : c.args.before + 1 ≡ suc c.args.before = omega arith in
    first_failed (g.W.Sink.written c.args.writer.now) (g.W.Sink.written c.put_key.new.writer) _
    (samples_text c.args.series.now.me c.args.series.now.name.now
    (key_samples (c.args.before + 1) (others_of c.args.fingerprints.now)))
    (samples_text c.args.series.now.me c.args.series.now.name.now (key_samples c.args.before c.args.fingerprints.now))
    (first_key c.args.series.now.me c.args.series.now.name.now c.args.before (c.args.before + 1)
    c.args.fingerprints.now _ next c.in-len1-up.len_at_least)
    c.if-not-put_key.ensures.bytes

pub returns-clause-bytes : goal.returns-clause-bytes
returns-clause-bytes g t c =
    let next : c.args.before + 1 ≡ suc c.args.before = omega arith in
    both_put (g.W.Sink.written c.args.writer.now) (g.W.Sink.written c.put_key.new.writer)
    (g.W.Sink.written c.put_keys_behind.new.writer) _
    (samples_text c.args.series.now.me c.args.series.now.name.now
    (key_samples (c.args.before + 1) (others_of c.args.fingerprints.now)))
    (samples_text c.args.series.now.me c.args.series.now.name.now (key_samples c.args.before c.args.fingerprints.now))
    c.put_keys_behind.result
    (first_key c.args.series.now.me c.args.series.now.name.now c.args.before (c.args.before + 1)
    c.args.fingerprints.now _ next c.in-len1-up.len_at_least)
    c.if-not-put_key.ensures.bytes c.put_keys_behind.ensures.bytes
