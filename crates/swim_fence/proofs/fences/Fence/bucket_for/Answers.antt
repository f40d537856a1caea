use Rattle.std.proofs.Common.{◌≡◌, arith, get_or, subst}
use Rattle.swim_fence.specs.Fences.{Kept, bucket_for}
use Rattle.swim_fence.proofs.Following.{bucket_for-at}
use Rattle.swim_fence.proofs.fences.Fence.bucket_for.Goals as goal

pub returns-in-Some : goal.returns-in-Some
returns-in-Some c =
    let inside = c.self.inside in
    let P : Kept → Type 0 = λ k. get_or inside.buckets c.in-Some.place (record { amount = 0; at = 0 }) ≡
    bucket_for k c.args.member.now in
    subst P c.self.view_is
    (bucket_for-at (record
    { rate = inside.rate; members = inside.places; buckets = inside.buckets; strangers = inside.strangers })
    c.args.member.now
    c.in-Some.place _ c.in-Some.ensures.value (omega (arith, c.in-Some.ensures.within)))
