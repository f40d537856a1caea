use Rattle.std.proofs.Common.{◌≡◌, ◌≤◌, ◌+◌, false, length, ap, arith, rules}
use Rattle.swim_wire.specs.Ids.{has}
use Rattle.swim_wire.specs.Round.{all_of}
use Rattle.swim_targets.proofs.Splits.{listing, all_split, room_left, joins_before, joined_before, joins_after}
use Rattle.swim_targets.proofs.Splits.{joined_after}
use Rattle.swim_targets.proofs.rounds.Targets.join.Goals as goal

pub invariant_of-self : goal.invariant_of-self
invariant_of-self g c =
    let all = all_split c.self.inside.members.items c.self.inside.probed c.args.self.now c.self.view_is in
    let none : has c.self.inside.members.items c.args.id ≡ false = cc in
    let room = room_left (length c.self.inside.members.items) c.self.invariant.bound (search rules) in
    rw c.insert.ensures.items
    (joins_before c.self.inside.members.items c.place-place.result c.self.inside.probed c.args.id
    c.if-place-self.true c.self.invariant none room)

pub invariant_of-self-else-place-self : goal.invariant_of-self-else-place-self
invariant_of-self-else-place-self g c =
    let all = all_split c.self.inside.members.items c.self.inside.probed c.args.self.now c.self.view_is in
    let size : length (all_of c.args.self.now) ≡ length c.self.inside.members.items = ap length all in
    let fits : c.place-place.result ≤ length c.self.inside.members.items = omega (arith, size) in
    let none : has c.self.inside.members.items c.args.id ≡ false = cc in
    let room = room_left (length c.self.inside.members.items) c.self.invariant.bound (search rules) in
    rw c.insert.ensures.items
    (joins_after c.self.inside.members.items c.place-place.result c.self.inside.probed c.args.id fits
    c.self.invariant none room)

pub returns-then-place-self-clause-ok : goal.returns-then-place-self-clause-ok
returns-then-place-self-clause-ok g c =
    rw (c.insert.ensures.items, ← c.self.view_is)
    (joined_before c.self.inside.members.items c.place-place.result c.self.inside.probed c.args.id
    c.if-place-self.true c.self.invariant.within)

pub returns-then-place-self-clause-listing : goal.returns-then-place-self-clause-listing
returns-then-place-self-clause-listing g c =
    listing c.insert.new.self.items (c.self.inside.probed + 1) (invariant_of-self g c)

pub returns-else-place-self-clause-ok : goal.returns-else-place-self-clause-ok
returns-else-place-self-clause-ok g c =
    let all = all_split c.self.inside.members.items c.self.inside.probed c.args.self.now c.self.view_is in
    let size : length (all_of c.args.self.now) ≡ length c.self.inside.members.items = ap length all in
    let fits : c.place-place.result ≤ length c.self.inside.members.items = omega (arith, size) in
    rw (c.insert.ensures.items, ← c.self.view_is)
    (joined_after c.self.inside.members.items c.place-place.result c.self.inside.probed c.args.id
    c.if-place-self.false fits)

pub returns-else-place-self-clause-listing : goal.returns-else-place-self-clause-listing
returns-else-place-self-clause-listing g c =
    listing c.insert.new.self.items c.self.inside.probed (invariant_of-self-else-place-self g c)
