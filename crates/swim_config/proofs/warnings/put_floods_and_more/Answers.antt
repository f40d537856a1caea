use Rattle.swim_text.specs.Streams.{puts_less, puts_then}
use Rattle.swim_config.specs.Warnings.{addresses_and_more_text, floods_text}
use Rattle.swim_config.proofs.warnings.put_floods_and_more.Goals as goal

pub returns-then-not-put_floods-clause-bytes : goal.returns-then-not-put_floods-clause-bytes
returns-then-not-put_floods-clause-bytes g c =
    puts_less (g.W.Sink.written c.args.writer.now) (g.W.Sink.written c.put_floods.new.writer)
    (floods_text c.args.config.now) (addresses_and_more_text c.args.config.now) c.if-not-put_floods.ensures.bytes

pub returns-clause-bytes : goal.returns-clause-bytes
returns-clause-bytes g c =
    puts_then (g.W.Sink.written c.args.writer.now) (g.W.Sink.written c.put_floods.new.writer)
    (g.W.Sink.written c.put_addresses.new.writer) (floods_text c.args.config.now)
    (addresses_and_more_text c.args.config.now) c.put_addresses.result c.if-not-put_floods.ensures.bytes
    c.put_addresses.ensures.bytes
