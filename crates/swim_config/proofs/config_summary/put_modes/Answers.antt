use Rattle.std.proofs.Common.{codes}
use Rattle.swim_text.specs.Streams.{puts_less, puts_then}
use Rattle.swim_config.specs.Summary.{mode_text}
use Rattle.swim_config.proofs.config_summary.put_modes.Goals as goal

pub returns-then-not-put_mode-clause-bytes : goal.returns-then-not-put_mode-clause-bytes
returns-then-not-put_mode-clause-bytes g c =
    puts_less (g.W.Sink.written c.args.writer.now) (g.W.Sink.written c.put_mode.new.writer)
    (mode_text (codes "\ncontrol_mode 0") c.args.config.now.modes.control)
    (mode_text (codes "\nevents_mode 0") c.args.config.now.modes.events) c.if-not-put_mode.ensures.bytes

pub returns-clause-bytes : goal.returns-clause-bytes
returns-clause-bytes g c =
    puts_then (g.W.Sink.written c.args.writer.now) (g.W.Sink.written c.put_mode.new.writer)
    (g.W.Sink.written c.put_mode-2.new.writer)
    (mode_text (codes "\ncontrol_mode 0") c.args.config.now.modes.control)
    (mode_text (codes "\nevents_mode 0") c.args.config.now.modes.events) c.put_mode-2.result
    c.if-not-put_mode.ensures.bytes c.put_mode-2.ensures.bytes
