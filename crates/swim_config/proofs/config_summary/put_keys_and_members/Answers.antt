use Rattle.swim_text.specs.Streams.{puts_less, puts_then}
use Rattle.swim_config.specs.Summary.{all_members_text, keys_text}
use Rattle.swim_config.proofs.config_summary.put_keys_and_members.Goals as goal

pub returns-then-not-put_keys-clause-bytes : goal.returns-then-not-put_keys-clause-bytes
returns-then-not-put_keys-clause-bytes g c =
    puts_less (g.W.Sink.written c.args.writer.now) (g.W.Sink.written c.put_keys.new.writer)
    (keys_text c.args.config.now.keys.items) (all_members_text c.args.config.now.opening.rows)
    (rw (← c.as_slice.ensures.value) c.if-not-put_keys.ensures.bytes)

pub returns-clause-bytes : goal.returns-clause-bytes
returns-clause-bytes g c =
    puts_then (g.W.Sink.written c.args.writer.now) (g.W.Sink.written c.put_keys.new.writer)
    (g.W.Sink.written c.put_all_members.new.writer) (keys_text c.args.config.now.keys.items)
    (all_members_text c.args.config.now.opening.rows) c.put_all_members.result
    (rw (← c.as_slice.ensures.value) c.if-not-put_keys.ensures.bytes) c.put_all_members.ensures.bytes
