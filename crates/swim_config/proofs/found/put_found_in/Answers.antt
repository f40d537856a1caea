use Rattle.swim_config.proofs.CauseLines.{lines_then}
use Rattle.swim_config.proofs.found.put_found_in.Goals as goal

pub returns-clause-lines : goal.returns-clause-lines
returns-clause-lines g c =
    lines_then (g.W.Sink.written c.args.writer.now) (g.W.Sink.written c.put_words.new.writer)
    (g.W.Sink.written c.put_places.new.writer) c.put_places.result c.if-not-put_words.ensures.lines
    c.put_places.ensures.lines
