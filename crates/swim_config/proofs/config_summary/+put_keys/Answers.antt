use Rattle.std.proofs.Common.{sym, ap}
use Rattle.swim_config.specs.Summary.{key_line, keys_text}
use Rattle.swim_text.specs.TwoPuts.{first_failed, both_put, first_and_others, others_of}
use Rattle.swim_config.proofs.config_summary.+put_keys.Goals as goal

pub returns-then-not-put_key_line-clause-bytes : goal.returns-then-not-put_key_line-clause-bytes
returns-then-not-put_key_line-clause-bytes g t c =
    first_failed (g.W.Sink.written c.args.writer.now) (g.W.Sink.written c.put_key_line.new.writer)
    (key_line c.first-item.result) (keys_text (others_of c.args.keys.now))
    (keys_text c.args.keys.now)
    (ap keys_text (sym
    (first_and_others c.args.keys.now c.first-item.result c.in-len1-up.len_at_least c.first-item.is)))
    c.if-not-put_key_line.ensures.bytes

pub returns-clause-bytes : goal.returns-clause-bytes
returns-clause-bytes g t c =
    both_put (g.W.Sink.written c.args.writer.now) (g.W.Sink.written c.put_key_line.new.writer)
    (g.W.Sink.written c.put_keys.new.writer) (key_line c.first-item.result)
    (keys_text (others_of c.args.keys.now)) (keys_text c.args.keys.now) c.put_keys.result
    (ap keys_text (sym
    (first_and_others c.args.keys.now c.first-item.result c.in-len1-up.len_at_least c.first-item.is)))
    c.if-not-put_key_line.ensures.bytes c.put_keys.ensures.bytes
