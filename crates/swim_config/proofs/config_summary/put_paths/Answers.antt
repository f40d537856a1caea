use Rattle.swim_text.specs.Streams.{puts_less, puts_then}
use Rattle.swim_config.specs.Summary.{modes_and_dir_text, telling_text}
use Rattle.swim_config.proofs.config_summary.put_paths.Goals as goal

pub returns-then-not-put_telling-clause-bytes : goal.returns-then-not-put_telling-clause-bytes
returns-then-not-put_telling-clause-bytes g c =
    puts_less (g.W.Sink.written c.args.writer.now) (g.W.Sink.written c.put_telling.new.writer)
    (telling_text c.args.config.now) (modes_and_dir_text c.args.config.now) c.if-not-put_telling.ensures.bytes

pub returns-clause-bytes : goal.returns-clause-bytes
returns-clause-bytes g c =
    puts_then (g.W.Sink.written c.args.writer.now) (g.W.Sink.written c.put_telling.new.writer)
    (g.W.Sink.written c.put_modes_and_dir.new.writer) (telling_text c.args.config.now)
    (modes_and_dir_text c.args.config.now) c.put_modes_and_dir.result
    c.if-not-put_telling.ensures.bytes c.put_modes_and_dir.ensures.bytes
