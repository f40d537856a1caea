use Rattle.std.proofs.Common.{[], ap, refl}
use Rattle.swim_metrics.proofs.Carrying.{began}
use Rattle.swim_metrics.proofs.metrics.Metrics.new.Goals as goal

pub returns-clause-follows : goal.returns-clause-follows
returns-clause-follows c = λ number. record {
  counts = c.begin.ensures number c.args.opening.now [] c.new-counts.ensures;
  period = c.new.ensures;
  number = ap (λ k. k.number) c.new-watching.ensures;
}
