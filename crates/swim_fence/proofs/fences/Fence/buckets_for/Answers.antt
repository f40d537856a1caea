use Rattle.std.proofs.Common.{arith}
use Rattle.swim_fence.proofs.fences.Fence.buckets_for.Goals as goal

pub returns : goal.returns
returns c = λ place a b within. c.loop-place.invariant.kept place (omega arith) a b
