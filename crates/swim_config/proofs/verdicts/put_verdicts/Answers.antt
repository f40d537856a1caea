use Rattle.std.proofs.Common.{length}
use Rattle.swim_text.specs.Streams.{puts_less, puts_then}
use Rattle.swim_config.specs.Warnings.{first_wire_text, no_return_text}
use Rattle.swim_config.proofs.verdicts.put_verdicts.Goals as goal

pub returns-then-not-put_wire-clause-bytes : goal.returns-then-not-put_wire-clause-bytes
returns-then-not-put_wire-clause-bytes g c =
    puts_less (g.W.Sink.written c.args.writer.now) (g.W.Sink.written c.put_wire.new.writer)
    (first_wire_text c.args.config.now.opening.version c.args.config.now.opening.k)
    (no_return_text c.args.config.now.rejoin (length c.args.config.now.opening.rows))
    c.if-not-put_wire.ensures.bytes

pub returns-clause-bytes : goal.returns-clause-bytes
returns-clause-bytes g c =
    puts_then (g.W.Sink.written c.args.writer.now) (g.W.Sink.written c.put_wire.new.writer)
    (g.W.Sink.written c.put_return.new.writer)
    (first_wire_text c.args.config.now.opening.version c.args.config.now.opening.k)
    (no_return_text c.args.config.now.rejoin (length c.args.config.now.opening.rows))
    c.put_return.result c.if-not-put_wire.ensures.bytes c.put_return.ensures.bytes
