use Rattle.std.proofs.Common.{ap, ◌∙◌}
use Rattle.swim_targets.proofs.Splits.{all_split, kept_refilled, some_rest}
use Rattle.swim_targets.proofs.rounds.Targets.redraw.Goals as goal

pub returns-then-self-len-clause-draws : goal.returns-then-self-len-clause-draws
returns-then-self-len-clause-draws g c =
    let all = all_split c.self.inside.members.items c.self.inside.probed c.args.self.now c.self.view_is in
    let rest = some_rest c.self.inside.members.items c.self.inside.probed
    (rw (← all, ← c.len.ensures.value) c.if-self-len.true) in
    λ none. absurd (rest (ap (λ lists. lists.rest) c.self.view_is ∙ none))

pub invariant_of-self : goal.invariant_of-self
invariant_of-self g c =
    kept_refilled c.self.inside.members.items c.order.new.ids c.self.inside.probed c.self.invariant
    (rw c.as_mut_slice.ensures.value at c.order.ensures.permutation)
