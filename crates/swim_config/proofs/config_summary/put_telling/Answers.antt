use Rattle.std.proofs.Common.{codes}
use Rattle.swim_text.specs.Streams.{puts_less, puts_then}
use Rattle.swim_config.specs.Summary.{path_text}
use Rattle.swim_config.proofs.config_summary.put_telling.Goals as goal

pub returns-then-not-put_path-clause-bytes : goal.returns-then-not-put_path-clause-bytes
returns-then-not-put_path-clause-bytes g c =
    puts_less (g.W.Sink.written c.args.writer.now) (g.W.Sink.written c.put_path.new.writer)
    (path_text (codes "\nevents ") c.args.config.now.events)
    (path_text (codes "\nmetrics ") c.args.config.now.metrics) c.if-not-put_path.ensures.bytes

pub returns-clause-bytes : goal.returns-clause-bytes
returns-clause-bytes g c =
    puts_then (g.W.Sink.written c.args.writer.now) (g.W.Sink.written c.put_path.new.writer)
    (g.W.Sink.written c.put_path-2.new.writer) (path_text (codes "\nevents ") c.args.config.now.events)
    (path_text (codes "\nmetrics ") c.args.config.now.metrics) c.put_path-2.result c.if-not-put_path.ensures.bytes
    c.put_path-2.ensures.bytes
