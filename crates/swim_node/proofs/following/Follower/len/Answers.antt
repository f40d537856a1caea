use Rattle.std.proofs.Common.{◌≡◌, length, rules}
use Rattle.swim_node.proofs.Reading.{all_known}
use Rattle.swim_node.specs.Following.{known_of}
use Rattle.swim_node.proofs.following.Follower.len.Goals as goal

pub returns : goal.returns
returns g c =
    let notes = c.self.inside.notes.items in
    let many : length (known_of notes) ≡ length notes =
    all_known notes (λ place n there. (c.self.invariant place n there).1) in
    rw (← c.self.view_is, many) (search rules)
