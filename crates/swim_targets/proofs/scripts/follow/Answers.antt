use Rattle.std.proofs.Common.{◌∙◌, ap, sym, length}
use Rattle.std.proofs.lemmas.List.Sorted.{length_permutation}
use Rattle.swim_targets.specs.Orders.{order_is}
use Rattle.swim_targets.proofs.scripts.follow.Goals as goal

pub copy_from_slice-requires : goal.copy_from_slice-requires
copy_from_slice-requires c =
    let p = order_is c.args.ids.now c.args.order.now.items (sym c.is_order_of.ensures ∙ c.if-is_order_of.true) in
    sym (length_permutation c.args.ids.now c.args.order.now.items p) ∙ sym (ap length c.as_slice.ensures.value)
