use Rattle.std.proofs.Common.{◌++◌, ap, ◌∙◌}
use Rattle.swim_text.specs.Streams.{puts_kept, failures_if}
use Rattle.swim_outcomes.specs.Outcomes.{outcome_text}
use Rattle.swim_outcomes.proofs.telling.tell_outcome.Goals as goal

pub returns : goal.returns
returns g c = record {
  details = c.as_slice-lines.result.now;
  indented = c.as_slice-lines.ensures.indented;
  explains = rw c.as_slice-lines.ensures.lines c.requires;
  done = c.put_told-is_put.result;
  put = puts_kept (g.F.Sink.written c.args.faults.now) (g.F.Sink.written c.put_told-is_put.new.faults)
      (g.F.Sink.written c.flush-is_sent.new.self) (outcome_text c.args.outcome ++ c.as_slice-lines.result.now)
      c.put_told-is_put.result c.put_told-is_put.ensures.bytes c.flush-is_sent.ensures.bytes;
  sent = c.flush-is_sent.result;
  failed = c.flush-is_sent.ensures.failures ∙
      ap (λ n. failures_if n c.flush-is_sent.result) c.put_told-is_put.ensures.failures;
  is = c.status.ensures;
}
