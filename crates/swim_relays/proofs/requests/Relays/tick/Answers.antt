use Rattle.std.proofs.Common.{◌+◌, ◌%◌, ◌^◌, List, ap}
use Rattle.swim_wire.specs.Requests.{Request}
use Rattle.swim_relays.specs.Waiting.{Waiting}
use Rattle.swim_relays.proofs.Counts.{expires, ticks_on}
use Rattle.swim_relays.proofs.requests.Relays.tick.Goals as goal

pub invariant_of-self : goal.invariant_of-self
invariant_of-self c =
    rw c.expire.ensures (ticks_on c.self.inside.period c.self.inside.count c.self.inside.entries.items c.self.invariant)

pub returns-clause-waiting : goal.returns-clause-waiting
returns-clause-waiting c =
    let in_table = λ (waiting : List Request). let w : Waiting =
    record { period = c.self.inside.period; count = (c.self.inside.count + 1) % 2 ^ 32; waiting = waiting } in w in
    rw (← c.self.view_is, c.expire.ensures)
    (ap in_table (expires c.self.inside.period c.self.inside.count c.self.inside.entries.items c.self.invariant))

pub returns-clause-kept : goal.returns-clause-kept
returns-clause-kept c = (invariant_of-self c).waiting
