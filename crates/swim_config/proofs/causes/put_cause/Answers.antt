use Rattle.swim_config.proofs.CauseLines.{expected_failed, both_put}
use Rattle.swim_config.proofs.causes.put_cause.Goals as goal

pub returns-then-not-put_expected-clause-bytes : goal.returns-then-not-put_expected-clause-bytes
returns-then-not-put_expected-clause-bytes g c =
    expected_failed c.args.fault (g.W.Sink.written c.args.writer.now) (g.W.Sink.written c.put_expected.new.writer)
    c.if-not-put_expected.ensures.bytes

pub returns-clause-bytes : goal.returns-clause-bytes
returns-clause-bytes g c =
    both_put c.args.fault (g.W.Sink.written c.args.writer.now) (g.W.Sink.written c.put_expected.new.writer)
    (g.W.Sink.written c.put_found.new.writer) c.put_found.result c.if-not-put_expected.ensures.bytes
    c.put_found.ensures.lines
