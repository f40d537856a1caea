use Rattle.swim_config.proofs.CauseLines.{lines_then}
use Rattle.swim_config.proofs.found.put_both.Goals as goal

pub returns-clause-lines : goal.returns-clause-lines
returns-clause-lines g c =
    lines_then (g.W.Sink.written c.args.writer.now) (g.W.Sink.written c.put_place.new.writer)
    (g.W.Sink.written c.put_place-2.new.writer) c.put_place-2.result c.if-not-put_place.ensures.lines
    c.put_place-2.ensures.lines
