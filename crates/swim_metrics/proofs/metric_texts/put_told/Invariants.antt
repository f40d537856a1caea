-- The metrics so far were written, and nothing failed.
use Rattle.std.proofs.Common.{◌≡◌, true, filter, take}
use Rattle.swim_text.specs.Streams.{Puts}
use Rattle.swim_metrics.specs.Families.{is_told}
use Rattle.swim_metrics.specs.Texts.{form_texts}
use Rattle.swim_metrics.proofs.metric_texts.put_told.Given as goal

abbrev pub invariant-loop-metric : goal.invariant-loop-metric
invariant-loop-metric g l = record {
  written : Puts (g.W.Sink.written l.initial.writer) (g.W.Sink.written l.writer)
      (form_texts l.form l.measures l.outside (filter (is_told l.outside) (take l.metric-index l.metrics))) true;
  unfailed : g.W.Sink.failures l.writer ≡ g.W.Sink.failures l.initial.writer;
}
