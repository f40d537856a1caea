use Rattle.std.proofs.Common.{List, sym, ap, ◌∙◌}
use Rattle.swim_wire.specs.Requests.{Request}
use Rattle.swim_wire.specs.RequestLaws.{forget_none}
use Rattle.swim_relays.specs.Waiting.{Waiting}
use Rattle.swim_relays.proofs.Tables.{asker_none}
use Rattle.swim_relays.proofs.Counts.{waits_none, forget_at, asker_at, takes}
use Rattle.swim_relays.proofs.requests.Relays.take.Goals as goal

pub returns-in_err-place-clause-asker : goal.returns-in_err-place-clause-asker
returns-in_err-place-clause-asker c =
    let none = waits_none c.self.inside.count c.args.key.now c.self.inside.entries.items
    (rw c.as_slice.ensures.value at c.in_err-place.ensures) in
    rw (← c.self.view_is) (c.from_residual.ensures ∙ asker_none c.args.key.now _ none)

pub returns-in_err-place-clause-waiting : goal.returns-in_err-place-clause-waiting
returns-in_err-place-clause-waiting c =
    let none = waits_none c.self.inside.count c.args.key.now c.self.inside.entries.items
    (rw c.as_slice.ensures.value at c.in_err-place.ensures) in
    rw (← c.self.view_is)
    (ap (λ (waiting : List Request). let w : Waiting =
    record { period = c.self.inside.period; count = c.self.inside.count; waiting = waiting } in w)
    (sym (forget_none c.args.key.now _ none)))

pub invariant_of-self : goal.invariant_of-self
invariant_of-self c =
    rw c.remove-request.ensures.items
    (takes c.args.key.now c.self.inside.period c.self.inside.count c.self.inside.entries.items c.in_ok-place.place
    (rw c.as_slice.ensures.value at c.in_ok-place.ensures) c.self.invariant)

pub returns-clause-asker : goal.returns-clause-asker
returns-clause-asker c =
    rw (← c.self.view_is)
    (asker_at c.self.inside.count c.args.key.now c.self.inside.entries.items c.in_ok-place.place
    c.remove-request.result (rw c.as_slice.ensures.value at c.in_ok-place.ensures) c.remove-request.ensures.value)

pub returns-clause-waiting : goal.returns-clause-waiting
returns-clause-waiting c =
    let gone = forget_at c.self.inside.count c.args.key.now c.self.inside.entries.items c.in_ok-place.place
    (rw c.as_slice.ensures.value at c.in_ok-place.ensures) c.self.invariant.waiting.once in
    rw (← c.self.view_is, c.remove-request.ensures.items)
    (ap (λ (waiting : List Request). let w : Waiting =
    record { period = c.self.inside.period; count = c.self.inside.count; waiting = waiting } in w) gone)

pub returns-clause-kept : goal.returns-clause-kept
returns-clause-kept c = (invariant_of-self c).waiting
