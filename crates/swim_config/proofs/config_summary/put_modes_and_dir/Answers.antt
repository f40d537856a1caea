use Rattle.std.proofs.Common.{codes}
use Rattle.swim_text.specs.Streams.{puts_less, puts_then}
use Rattle.swim_config.specs.Summary.{modes_text, path_text}
use Rattle.swim_config.proofs.config_summary.put_modes_and_dir.Goals as goal

pub returns-then-not-put_modes-clause-bytes : goal.returns-then-not-put_modes-clause-bytes
returns-then-not-put_modes-clause-bytes g c =
    puts_less (g.W.Sink.written c.args.writer.now) (g.W.Sink.written c.put_modes.new.writer)
    (modes_text c.args.config.now)
    (path_text (codes "\njournal_dir ") c.args.config.now.files.dir) c.if-not-put_modes.ensures.bytes

pub returns-clause-bytes : goal.returns-clause-bytes
returns-clause-bytes g c =
    puts_then (g.W.Sink.written c.args.writer.now) (g.W.Sink.written c.put_modes.new.writer)
    (g.W.Sink.written c.put_path.new.writer) (modes_text c.args.config.now)
    (path_text (codes "\njournal_dir ") c.args.config.now.files.dir) c.put_path.result
    c.if-not-put_modes.ensures.bytes c.put_path.ensures.bytes
