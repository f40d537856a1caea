use Rattle.std.proofs.Common.{◌++◌}
use Rattle.swim_history.specs.Texts.{feed}
use Rattle.swim_text.specs.Streams.{puts_less, puts_then}
use Rattle.swim_metrics.specs.Headed.{head_if}
use Rattle.swim_metrics.proofs.headed.put_one.Goals as goal

pub returns-then-not-put_head_if-clause-bytes : goal.returns-then-not-put_head_if-clause-bytes
returns-then-not-put_head_if-clause-bytes g c =
    puts_less (g.W.Sink.written c.args.writer.now) (g.W.Sink.written c.put_head_if.new.writer)
    (head_if c.args.before c.args.metric) (c.args.line.now ++ feed)
    c.if-not-put_head_if.ensures.bytes

pub returns-clause-bytes : goal.returns-clause-bytes
returns-clause-bytes g c =
    puts_then (g.W.Sink.written c.args.writer.now) (g.W.Sink.written c.put_head_if.new.writer)
    (g.W.Sink.written c.put_line.new.writer) (head_if c.args.before c.args.metric) (c.args.line.now ++ feed)
    c.put_line.result c.if-not-put_head_if.ensures.bytes c.put_line.ensures.bytes
