use Rattle.std.proofs.Common.{◌≡◌, ◌≤◌, [], ◌∷◌, ◌++◌, List, length, get_or, refl, sym, ap, arith}
use Rattle.swim_text.specs.TwoPuts.{first_failed, both_put, first_and_others, others_of}
use Rattle.swim_config.specs.declared.config.Config.{Config}
use Rattle.swim_config.specs.declared.keys.ConfigKey.{ConfigKey}
use Rattle.swim_config.specs.Summary.{numbers_text, told_text}
use Rattle.swim_config.proofs.config_summary.+put_numbers.Goals as goal

-- the first key and the others
first_told : (config : Config) (keys : List ConfigKey) (other : ConfigKey) → 1 ≤ length keys →
    told_text config (get_or keys 0 other) ++ numbers_text config (others_of keys) ≡ numbers_text config keys
first_told config keys other some =
    ap (numbers_text config) (sym (first_and_others keys (get_or keys 0 other) some (same keys some)))
  where
    same : (keys : List ConfigKey) → 1 ≤ length keys → get_or keys 0 other ≡ get_or keys 0 (get_or keys 0 other)
    same [] some = absurd (omega (arith, some))
    same (key ∷ others) some = refl

pub returns-then-not-put_key-clause-bytes : goal.returns-then-not-put_key-clause-bytes
returns-then-not-put_key-clause-bytes g t c =
    first_failed (g.W.Sink.written c.args.writer.now) (g.W.Sink.written c.put_key.new.writer) _
    (numbers_text c.args.config.now (others_of c.args.keys.now)) (numbers_text c.args.config.now c.args.keys.now)
    (first_told c.args.config.now c.args.keys.now _ c.in-len1-up.len_at_least)
    c.if-not-put_key.ensures.bytes

pub returns-clause-bytes : goal.returns-clause-bytes
returns-clause-bytes g t c =
    both_put (g.W.Sink.written c.args.writer.now) (g.W.Sink.written c.put_key.new.writer)
    (g.W.Sink.written c.put_numbers.new.writer) _
    (numbers_text c.args.config.now (others_of c.args.keys.now)) (numbers_text c.args.config.now c.args.keys.now)
    c.put_numbers.result
    (first_told c.args.config.now c.args.keys.now _ c.in-len1-up.len_at_least)
    c.if-not-put_key.ensures.bytes c.put_numbers.ensures.bytes
