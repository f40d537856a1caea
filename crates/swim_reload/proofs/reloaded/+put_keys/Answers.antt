use Rattle.std.proofs.Common.{◌≡◌, ◌≤◌, [], ◌∷◌, ◌++◌, List, length, get_or, refl, sym, ap, arith}
use Rattle.swim_text.specs.TwoPuts.{first_failed, both_put, first_and_others, others_of}
use Rattle.swim_config.specs.declared.config.Config.{Config}
use Rattle.swim_config.specs.declared.keys.ConfigKey.{ConfigKey}
use Rattle.swim_reload.specs.Reloaded.{told_text, told_texts}
use Rattle.swim_reload.proofs.reloaded.+put_keys.Goals as goal

-- the first key and the others
first_told : (started read : Config) (keys : List ConfigKey) (other : ConfigKey) → 1 ≤ length keys →
    told_text started read (get_or keys 0 other) ++ told_texts started read (others_of keys) ≡
    told_texts started read keys
first_told started read keys other some =
    ap (told_texts started read) (sym (first_and_others keys (get_or keys 0 other) some (same keys some)))
  where
    same : (keys : List ConfigKey) → 1 ≤ length keys → get_or keys 0 other ≡ get_or keys 0 (get_or keys 0 other)
    same [] some = absurd (omega (arith, some))
    same (key ∷ others) some = refl

pub returns-then-not-put_key-clause-bytes : goal.returns-then-not-put_key-clause-bytes
returns-then-not-put_key-clause-bytes g t c =
    first_failed (g.W.Sink.written c.args.writer.now) (g.W.Sink.written c.put_key.new.writer) _
    (told_texts c.args.started.now c.args.read.now (others_of c.args.keys.now))
    (told_texts c.args.started.now c.args.read.now c.args.keys.now)
    (first_told c.args.started.now c.args.read.now c.args.keys.now _ c.in-len1-up.len_at_least)
    c.if-not-put_key.ensures.bytes

pub returns-clause-bytes : goal.returns-clause-bytes
returns-clause-bytes g t c =
    both_put (g.W.Sink.written c.args.writer.now) (g.W.Sink.written c.put_key.new.writer)
    (g.W.Sink.written c.put_keys.new.writer) _
    (told_texts c.args.started.now c.args.read.now (others_of c.args.keys.now))
    (told_texts c.args.started.now c.args.read.now c.args.keys.now)
    c.put_keys.result
    (first_told c.args.started.now c.args.read.now c.args.keys.now _ c.in-len1-up.len_at_least)
    c.if-not-put_key.ensures.bytes c.put_keys.ensures.bytes
