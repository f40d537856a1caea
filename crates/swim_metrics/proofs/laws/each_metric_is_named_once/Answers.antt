use Rattle.std.proofs.Common.{refl}
use Rattle.swim_metrics.proofs.laws.each_metric_is_named_once.Goals as goal

pub returns : goal.returns
returns c = λ m out. refl
