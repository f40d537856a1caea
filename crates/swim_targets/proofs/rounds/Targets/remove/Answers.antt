use Rattle.std.proofs.Common.{◌-◌}
use Rattle.swim_targets.specs.Places.{IsFirstAt}
use Rattle.swim_targets.proofs.Splits.{listing, leaves_before, left_before, leaves_after, left_after, left_none}
use Rattle.swim_targets.proofs.rounds.Targets.remove.Goals as goal

pub returns-in_default-clause-lists : goal.returns-in_default-clause-lists
returns-in_default-clause-lists c =
    rw (← c.self.view_is)
    (left_none c.self.inside.members.items c.self.inside.probed c.args.id
    (rw c.as_slice.ensures.value at c.in_default.ensures))

pub invariant_of-self : goal.invariant_of-self
invariant_of-self c =
    let at : IsFirstAt c.self.inside.members.items c.args.id c.in-Some.place =
    rw c.as_slice.ensures.value at c.in-Some.ensures in
    rw c.remove.ensures.items
    (leaves_before c.self.inside.members.items c.in-Some.place c.self.inside.probed c.args.id c.if-place-self.true
    c.self.invariant at.here)

pub invariant_of-self-else-place-self : goal.invariant_of-self-else-place-self
invariant_of-self-else-place-self c =
    let at : IsFirstAt c.self.inside.members.items c.args.id c.in-Some.place =
    rw c.as_slice.ensures.value at c.in-Some.ensures in
    rw c.remove.ensures.items
    (leaves_after c.self.inside.members.items c.in-Some.place c.self.inside.probed c.args.id c.if-place-self.false
    at.listed c.self.invariant at.here)

pub returns-then-place-self-clause-lists : goal.returns-then-place-self-clause-lists
returns-then-place-self-clause-lists c =
    let at : IsFirstAt c.self.inside.members.items c.args.id c.in-Some.place =
    rw c.as_slice.ensures.value at c.in-Some.ensures in
    rw (c.remove.ensures.items, ← c.self.view_is)
    (left_before c.self.inside.members.items c.in-Some.place c.self.inside.probed c.args.id c.if-place-self.true
    c.self.invariant at.here)

pub returns-else-place-self-clause-lists : goal.returns-else-place-self-clause-lists
returns-else-place-self-clause-lists c =
    let at : IsFirstAt c.self.inside.members.items c.args.id c.in-Some.place =
    rw c.as_slice.ensures.value at c.in-Some.ensures in
    rw (c.remove.ensures.items, ← c.self.view_is)
    (left_after c.self.inside.members.items c.in-Some.place c.self.inside.probed c.args.id c.if-place-self.false
    at.listed c.self.invariant.once at.here)

pub returns-then-place-self-clause-listing : goal.returns-then-place-self-clause-listing
returns-then-place-self-clause-listing c =
    listing c.remove.new.self.items (c.self.inside.probed - 1) (invariant_of-self c)

pub returns-else-place-self-clause-listing : goal.returns-else-place-self-clause-listing
returns-else-place-self-clause-listing c =
    listing c.remove.new.self.items c.self.inside.probed (invariant_of-self-else-place-self c)
