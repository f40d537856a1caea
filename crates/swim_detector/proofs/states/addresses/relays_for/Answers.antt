use Rattle.std.proofs.Common.{◌≡◌, ap, ◌∙◌, take, map}
use Rattle.std.specs.Prelude.{IsPermutation}
use Rattle.swim_history.specs.Run.{candidates}
use Rattle.swim_detector.proofs.Asking.{chosen_listed, are_relays}
use Rattle.swim_detector.proofs.states.addresses.relays_for.Goals as goal

pub relays_at-requires-clause-listed : goal.relays_at-requires-clause-listed
relays_at-requires-clause-listed g c =
    let o = c.args.journal.now.opening in
    let k = c.k-k.ensures.value ∙ ap (λ x. x.k) c.opening.ensures.value in
    let order : IsPermutation (candidates o c.args.journal.now.past c.args.target) c.order.new.members.items =
    rw (c.candidates-others.ensures.value, c.requires) at c.order.ensures.permutation in
    rw (c.as_slice.ensures.value, c.truncate.ensures.items, k)
    (chosen_listed o c.args.journal.now.past c.args.target c.order.new.members.items c.opening.ensures.limits
    c.opening.ensures.run order)

pub returns-clause-relays : goal.returns-clause-relays
returns-clause-relays g c =
    let o = c.args.journal.now.opening in
    let k = c.k-k.ensures.value ∙ ap (λ x. x.k) c.opening.ensures.value in
    let order : IsPermutation (candidates o c.args.journal.now.past c.args.target) c.order.new.members.items =
    rw (c.candidates-others.ensures.value, c.requires) at c.order.ensures.permutation in
    let ids : map (λ relay. relay.id) c.relays_at.result.items ≡ take o.k c.order.new.members.items =
    c.relays_at.ensures.ids ∙ (c.as_slice.ensures.value ∙ rw k at c.truncate.ensures.items) in
    are_relays o c.args.journal.now.past c.args.target c.order.new.members.items c.relays_at.result.items
    c.opening.ensures.limits c.opening.ensures.run order ids c.relays_at.ensures.addresses
