use Rattle.std.proofs.Common.{◌≡◌, drop}
use Rattle.swim_targets.specs.Script.{is_order_of}
use Rattle.swim_targets.proofs.scripts.is_order_of.Given as goal

abbrev pub invariant-loop-id : goal.invariant-loop-id
invariant-loop-id l = is_order_of l.ids l.order.items ≡ is_order_of (drop l.id-index l.ids) l.left.items
