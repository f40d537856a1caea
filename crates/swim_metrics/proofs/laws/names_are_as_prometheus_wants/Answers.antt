use Rattle.std.proofs.Common.{refl}
use Rattle.swim_metrics.proofs.laws.names_are_as_prometheus_wants.Goals as goal

pub returns : goal.returns
returns c = λ m out. refl
