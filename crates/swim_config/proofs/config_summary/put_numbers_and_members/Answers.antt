use Rattle.swim_text.specs.Streams.{puts_less, puts_then}
use Rattle.swim_config.specs.Keys.{number_keys}
use Rattle.swim_config.specs.Summary.{keys_and_members_text, numbers_text}
use Rattle.swim_config.proofs.config_summary.put_numbers_and_members.Goals as goal

pub returns-then-not-put_numbers-clause-bytes : goal.returns-then-not-put_numbers-clause-bytes
returns-then-not-put_numbers-clause-bytes g c =
    puts_less (g.W.Sink.written c.args.writer.now) (g.W.Sink.written c.put_numbers.new.writer)
    (numbers_text c.args.config.now number_keys) (keys_and_members_text c.args.config.now)
    c.if-not-put_numbers.ensures.bytes

pub returns-clause-bytes : goal.returns-clause-bytes
returns-clause-bytes g c =
    puts_then (g.W.Sink.written c.args.writer.now) (g.W.Sink.written c.put_numbers.new.writer)
    (g.W.Sink.written c.put_keys_and_members.new.writer) (numbers_text c.args.config.now number_keys)
    (keys_and_members_text c.args.config.now)
    c.put_keys_and_members.result c.if-not-put_numbers.ensures.bytes c.put_keys_and_members.ensures.bytes
