use Rattle.std.proofs.Common.{codes}
use Rattle.swim_text.specs.Streams.{puts_less, puts_then}
use Rattle.swim_reload.specs.Reloaded.{end_text}
use Rattle.swim_reload.proofs.Sizes.{at_most_439}
use Rattle.swim_reload.proofs.reloaded.put_reloaded.Goals as goal

pub returns-then-not-put-clause-bytes : goal.returns-then-not-put-clause-bytes
returns-then-not-put-clause-bytes g c =
    puts_less (g.W.Sink.written c.args.writer.now) (g.W.Sink.written c.put.new.self) (codes "reloaded")
    (end_text c.args.started.now c.args.read.now) c.if-not-put.ensures.bytes

pub returns-clause-bytes : goal.returns-clause-bytes
returns-clause-bytes g c =
    puts_then (g.W.Sink.written c.args.writer.now) (g.W.Sink.written c.put.new.self)
    (g.W.Sink.written c.put_end.new.writer) (codes "reloaded") (end_text c.args.started.now c.args.read.now)
    c.put_end.result c.if-not-put.ensures.bytes c.put_end.ensures.bytes

pub returns-then-not-put-clause-size : goal.returns-then-not-put-clause-size
returns-then-not-put-clause-size g c = at_most_439 c.args.started.now c.args.read.now

pub returns-clause-size : goal.returns-clause-size
returns-clause-size g c = at_most_439 c.args.started.now c.args.read.now
