use Rattle.std.proofs.Common.{List, ap, arith, rules, sym, ◌∙◌}
use Rattle.std.specs.List.{position}
use Rattle.swim_wire.specs.Address.{Address}
use Rattle.swim_fence.specs.Histories.{is_same}
use Rattle.swim_fence.proofs.Indexing.{found, not_found}
use Rattle.swim_fence.proofs.places.Places.place_of.Goals as goal

pub returns-then-is_same-clause-value : goal.returns-then-is_same-clause-value
returns-then-is_same-clause-value c =
    sym (found c.self.inside.members.items c.self.inside.starts c.self.inside.ends c.args.peer.now
    c.index-members-place.result c.from-start.result
    c.loop-place.place c.self.invariant (search rules) (search rules) (omega arith) (search rules) (search rules))
    ∙ ap (λ (members : List Address). position (is_same c.args.peer.now) members) c.self.view_is

pub returns-clause-value : goal.returns-clause-value
returns-clause-value c =
    sym (not_found c.self.inside.members.items c.self.inside.starts c.self.inside.ends c.args.peer.now
    c.from-start.result c.from-end.result
    c.loop-place.place c.self.invariant (search rules) (search rules) (search rules) (omega arith))
    ∙ ap (λ (members : List Address). position (is_same c.args.peer.now) members) c.self.view_is
