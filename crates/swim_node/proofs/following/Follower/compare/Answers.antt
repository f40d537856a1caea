use Rattle.std.proofs.lemmas.Option.{slice_get_within}
use Rattle.swim_node.proofs.Reading.{known_begin}
use Rattle.swim_node.proofs.following.Follower.compare.Goals as goal

pub invariant_of-self : goal.invariant_of-self
invariant_of-self g c = rw (c.compare_each.ensures.own) c.self.invariant

pub returns-clause-begins : goal.returns-clause-begins
returns-clause-begins g c all are =
    let own = c.self.inside.notes.items in
    rw (← c.self.view_is)
    (known_begin g.N.Naming.cells own all
    (λ i n is. rw are at (c.compare_each.ensures.among i n (slice_get_within own i n is) is)))
