use Rattle.std.proofs.Common.{◌∙◌}
use Rattle.swim_targets.specs.Places.{IsFirstAt}
use Rattle.swim_targets.proofs.Firsts.{taken_out}
use Rattle.swim_targets.proofs.scripts.is_order_of.Goals as goal

pub loop-id-preserved : goal.loop-id-preserved
loop-id-preserved c =
    let at : IsFirstAt c.loop-id.left.items c.id-item.result c.in-Some.place =
    rw c.as_slice-in-loop-id.ensures.value at c.in-Some.ensures in
    rw (c.remove.ensures.items)
    (c.loop-id.invariant ∙
    taken_out c.args.ids.now c.loop-id.left.items c.loop-id.id-index c.in-Some.place c.id-item.result
    c.loop-id-test.true c.id-item.is at)
