use Rattle.swim_text.specs.Streams.{puts_less, puts_then}
use Rattle.swim_config.specs.Warnings.{plain_keys_text, plain_seed_text}
use Rattle.swim_config.proofs.guesses.put_guesses.Goals as goal

pub returns-then-not-put_seed-clause-bytes : goal.returns-then-not-put_seed-clause-bytes
returns-then-not-put_seed-clause-bytes g c =
    puts_less (g.W.Sink.written c.args.writer.now) (g.W.Sink.written c.put_seed.new.writer)
    (plain_seed_text c.args.config.now.seed) (plain_keys_text c.args.config.now.keys.items)
    c.if-not-put_seed.ensures.bytes

pub returns-clause-bytes : goal.returns-clause-bytes
returns-clause-bytes g c =
    puts_then (g.W.Sink.written c.args.writer.now) (g.W.Sink.written c.put_seed.new.writer)
    (g.W.Sink.written c.put_keys.new.writer) (plain_seed_text c.args.config.now.seed)
    (plain_keys_text c.args.config.now.keys.items) c.put_keys.result c.if-not-put_seed.ensures.bytes
    (rw (← c.as_slice.ensures.value) c.put_keys.ensures.bytes)
