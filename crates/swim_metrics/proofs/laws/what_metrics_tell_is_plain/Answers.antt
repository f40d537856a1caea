use Rattle.std.proofs.Common.{refl}
use Rattle.swim_metrics.proofs.laws.what_metrics_tell_is_plain.Goals as goal

pub returns : goal.returns
returns c = λ m out. refl
