use Rattle.std.proofs.Common.{refl}
use Rattle.swim_metrics.proofs.Forms.{told_failed}
use Rattle.swim_metrics.proofs.metric_texts.put_told.Goals as goal

pub returns-then-not-put_if_told-clause-bytes : goal.returns-then-not-put_if_told-clause-bytes
returns-then-not-put_if_told-clause-bytes g c =
    told_failed (g.W.Sink.written c.args.writer.now) (g.W.Sink.written c.loop-metric.writer)
    (g.W.Sink.written c.put_if_told.new.writer) c.args.form c.args.measures.now c.args.outside.now c.args.metrics.now
    c.loop-metric.metric-index _ _ c.loop-metric-test.true refl c.loop-metric.invariant.written
    c.if-not-put_if_told.ensures.bytes
