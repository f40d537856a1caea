use Rattle.swim_config.proofs.CauseLines.{lines_then}
use Rattle.swim_config.proofs.found.put_stop.Goals as goal

pub returns-clause-lines : goal.returns-clause-lines
returns-clause-lines g c =
    lines_then (g.W.Sink.written c.args.writer.now) (g.W.Sink.written c.put.new.writer)
    (g.W.Sink.written c.put_line.new.writer) c.put_line.result c.if-not-put.ensures.line c.put_line.ensures.lines
