use Rattle.std.proofs.Common.{◌≡◌}
use Rattle.swim_targets.proofs.Follows.{is_reordered, is_followed, is_left, is_first}
use Rattle.swim_targets.proofs.scripts.ScriptedChooser.order.Goals as goal

pub returns-clause-permutation : goal.returns-clause-permutation
returns-clause-permutation c = rw c.follow.ensures (is_reordered c.args.ids.now c.in-Some.order.now.items)

pub returns-clause-followed : goal.returns-clause-followed
returns-clause-followed c = λ order first p.
    let lookup = rw c.deref.ensures.value at c.in-Some.ensures.lookup in
    let same : order ≡ c.in-Some.order.now.items =
    is_first c.self.inside.orders.items c.self.inside.orders_used c.in-Some.order.now order lookup.3.0 lookup.1
    (rw (← c.self.view_is) at first) in
    rw (c.follow.ensures, ← same) (is_followed c.args.ids.now order p)

pub returns-clause-kept : goal.returns-clause-kept
returns-clause-kept c = λ order first other.
    let lookup = rw c.deref.ensures.value at c.in-Some.ensures.lookup in
    let same : order ≡ c.in-Some.order.now.items =
    is_first c.self.inside.orders.items c.self.inside.orders_used c.in-Some.order.now order lookup.3.0 lookup.1
    (rw (← c.self.view_is) at first) in
    rw (c.follow.ensures, ← same) (is_left c.args.ids.now order other)
