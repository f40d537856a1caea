use Rattle.std.proofs.Common.{rules, ◌∙◌}
use Rattle.swim_node.proofs.locked.Locked.gap.Goals as goal

pub returns-clause-gap : goal.returns-clause-gap
returns-clause-gap g c =
    let opening = c.journal-journal.ensures.opening ∙ c.self.invariant.0 in (
      c.self.inside.recorder.past,
      record { run = search rules; calls = search rules },
      rw (c.journal-journal.ensures.past, opening) at c.widest_gap.ensures.widest,
      rw (c.journal-journal.ensures.past, opening) at c.widest_gap.ensures.none,
    )
