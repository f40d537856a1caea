use Rattle.std.proofs.Common.{codes}
use Rattle.swim_text.specs.Streams.{puts_less, puts_then}
use Rattle.swim_reload.specs.InForce.{start_keys}
use Rattle.swim_reload.specs.Reloaded.{told_texts}
use Rattle.swim_reload.proofs.reloaded.put_end.Goals as goal

pub returns-then-not-put_keys-clause-bytes : goal.returns-then-not-put_keys-clause-bytes
returns-then-not-put_keys-clause-bytes g c =
    puts_less (g.W.Sink.written c.args.writer.now) (g.W.Sink.written c.put_keys.new.writer)
    (told_texts c.args.started.now c.args.read.now start_keys) (codes "\n") c.if-not-put_keys.ensures.bytes

pub returns-clause-bytes : goal.returns-clause-bytes
returns-clause-bytes g c =
    puts_then (g.W.Sink.written c.args.writer.now) (g.W.Sink.written c.put_keys.new.writer)
    (g.W.Sink.written c.put.new.self) (told_texts c.args.started.now c.args.read.now start_keys) (codes "\n")
    c.put.result c.if-not-put_keys.ensures.bytes c.put.ensures.bytes
