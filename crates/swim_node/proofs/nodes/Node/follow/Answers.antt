use Rattle.std.proofs.Common.{rules, ◌≡◌, length, ap}
use Rattle.swim_node.specs.Following.{known_of}
use Rattle.swim_node.proofs.Reading.{all_known, known_more, placed_more}
use Rattle.swim_node.proofs.nodes.Node.follow.Goals as goal

pub invariant_of-follower : goal.invariant_of-follower
invariant_of-follower g c = rw (c.reserve.ensures.items) c.follower.invariant

pub invariant_of-follower-in_default-read : goal.invariant_of-follower-in_default-read
invariant_of-follower-in_default-read g c = rw (c.reserve.ensures.items) c.follower.invariant

pub invariant_of-follower-2 : goal.invariant_of-follower-2
invariant_of-follower-2 g c =
    placed_more g.N.Naming.cells c.follower.inside.notes.items c.push_reserved.new.self.items c.in-Some.read.note
    c.follower.invariant c.in-Some.read.followed c.in-Some.ensures.note (search rules) (search rules)

pub returns-clause-some : goal.returns-clause-some
returns-clause-some g c =
    rw (c.push_reserved.ensures.items, c.reserve.ensures.items, ← c.follower.view_is)
    (known_more c.follower.inside.notes.items c.in-Some.read.note c.in-Some.read.followed
    (ap (λ n. n.known) c.in-Some.ensures.note))

pub returns-clause-place : goal.returns-clause-place
returns-clause-place g c =
    let notes = c.follower.inside.notes.items in
    let many : length (known_of notes) ≡ length notes =
    all_known notes (λ place n there. (c.follower.invariant place n there).1) in
    rw (← c.follower.view_is, many) (search rules)
