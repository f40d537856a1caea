use Rattle.std.proofs.Common.{arith, subst}
use Rattle.swim_fence.specs.Fences.{HasRoom, Kept}
use Rattle.swim_fence.proofs.Following.{HasRoom-from_lengths}
use Rattle.swim_fence.proofs.fences.Fence.ask.Goals as goal

pub returns-in-None-clause-room : goal.returns-in-None-clause-room
returns-in-None-clause-room c =
    let inside = c.self.inside in
    let P : Kept → Type 0 = λ k. HasRoom k in
    subst P c.self.view_is
    (HasRoom-from_lengths
    (record { rate = inside.rate; members = inside.places; buckets = inside.buckets; strangers = inside.strangers })
    (omega arith))
