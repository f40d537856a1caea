use Rattle.swim_text.specs.Streams.{puts_less, puts_then}
use Rattle.swim_config.specs.Summary.{own_text, paths_text}
use Rattle.swim_config.proofs.config_summary.put_place.Goals as goal

pub returns-then-not-put_own-clause-bytes : goal.returns-then-not-put_own-clause-bytes
returns-then-not-put_own-clause-bytes g c =
    puts_less (g.W.Sink.written c.args.writer.now) (g.W.Sink.written c.put_own.new.writer) (own_text c.args.config.now)
    (paths_text c.args.config.now)
    c.if-not-put_own.ensures.bytes

pub returns-clause-bytes : goal.returns-clause-bytes
returns-clause-bytes g c =
    puts_then (g.W.Sink.written c.args.writer.now) (g.W.Sink.written c.put_own.new.writer)
    (g.W.Sink.written c.put_paths.new.writer) (own_text c.args.config.now) (paths_text c.args.config.now)
    c.put_paths.result c.if-not-put_own.ensures.bytes c.put_paths.ensures.bytes
