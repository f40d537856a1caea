use Rattle.std.proofs.Common.{reverse}
use Rattle.swim_history.specs.Laws.Probes.{probes_as_drawn}
use Rattle.swim_history.proofs.journals.Journal.probes.Goals as goal

pub returns-clause-drawn : goal.returns-clause-drawn
returns-clause-drawn c =
    let j = c.self.inside in
    rw (← c.self.view_is) (probes_as_drawn j.opening (reverse j.entries.items) c.self.invariant.1)
