use Rattle.std.proofs.Common.{ap, is_some, ◌∙◌}
use Rattle.swim_relays.proofs.Counts.{waits_at}
use Rattle.swim_relays.proofs.requests.Relays.waits.Goals as goal

pub returns-clause-value : goal.returns-clause-value
returns-clause-value c =
    rw (← c.self.view_is)
    (c.is_some.ensures ∙ (ap is_some (rw c.as_slice.ensures.value at c.place_of.ensures) ∙
    waits_at c.self.inside.count c.args.key.now c.self.inside.entries.items))
