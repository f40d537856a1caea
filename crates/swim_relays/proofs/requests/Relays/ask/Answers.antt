use Rattle.std.proofs.Common.{◌≡◌, false, length, nat_lt, refl, sym, ap, ◌∙◌, arith}
use Rattle.std.proofs.lemmas.Bool.{or_parts, ltb-false}
use Rattle.swim_wire.specs.Requests.{waits}
use Rattle.swim_relays.specs.Waiting.{Waiting}
use Rattle.swim_relays.specs.Due.{requests_at}
use Rattle.swim_relays.proofs.Tables.{gone}
use Rattle.swim_relays.proofs.Counts.{room_left, pushes}
use Rattle.swim_relays.proofs.requests.Relays.ask.Goals as goal

pub returns-then-not-has_room-clause-full : goal.returns-then-not-has_room-clause-full
returns-then-not-has_room-clause-full c =
    let table = c.args.self.now.waiting in
    let parts = or_parts (waits c.args.key table) (nat_lt (length table) 64)
    (sym c.has_room.ensures.value ∙ c.if-not-has_room.true) in
    (λ _. (parts.0, omega (arith, ltb-false (length table) 64 parts.1, c.has_room.ensures.kept.bound)), λ _. refl)

pub push-requires : goal.push-requires
push-requires c =
    let left = ap (λ (w : Waiting). w.waiting) (c.self.view_is ∙ c.take.ensures.waiting) in (
      omega arith,
      room_left c.args.key c.args.self.now.waiting c.self.inside.count c.self.inside.entries.items left
          (sym c.has_room.ensures.value ∙ c.if-not-has_room.false) c.has_room.ensures.kept.bound,
    )

pub invariant_of-self : goal.invariant_of-self
invariant_of-self c =
    let items = c.self.inside.entries.items in
    let left = ap (λ (w : Waiting). w.waiting) (c.self.view_is ∙ c.take.ensures.waiting) in
    let none : waits c.args.key (requests_at c.self.inside.count items) ≡ false = ap (waits c.args.key) left ∙
    gone c.args.key c.args.self.now.waiting in
    let room = room_left c.args.key c.args.self.now.waiting c.self.inside.count items left
    (sym c.has_room.ensures.value ∙ c.if-not-has_room.false) c.has_room.ensures.kept.bound in
    rw c.push.ensures.items
    (pushes c.args.key c.args.peer c.args.version c.self.inside.period c.self.inside.count items c.self.invariant
    none room)

pub returns-clause-kept : goal.returns-clause-kept
returns-clause-kept c = (invariant_of-self c).waiting
