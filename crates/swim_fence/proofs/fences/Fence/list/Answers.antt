use Rattle.std.proofs.Common.{List, subst, sym}
use Rattle.swim_wire.specs.Address.{Address}
use Rattle.swim_fence.specs.Fences.{Follows, Kept}
use Rattle.swim_fence.proofs.Listing.{AreKeptFor, Follows-listed}
use Rattle.swim_fence.proofs.fences.Fence.list.Goals as goal

pub returns-clause-follows : goal.returns-clause-follows
returns-clause-follows c = λ h f.
    let inside = c.self.inside in
    let before : Kept = record
    { rate = inside.rate; members = inside.places; buckets = inside.buckets; strangers = inside.strangers } in
    let P : Kept → Type 0 = λ k. Follows k h in
    let Q : List Address → Type 0 = λ members. AreKeptFor c.args.self.now members c.buckets_for-self-inside.result in
    let R : Kept → Type 0 = λ k. AreKeptFor k c.of-places.result c.buckets_for-self-inside.result in
    Follows-listed before h c.args.members.now c.of-places.result c.buckets_for-self-inside.result
    c.of-places.ensures.order
    (subst R (sym c.self.view_is) (subst Q c.as_slice.ensures.value c.buckets_for-self-inside.ensures))
    (subst P (sym c.self.view_is) f)
