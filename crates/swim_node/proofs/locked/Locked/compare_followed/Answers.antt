use Rattle.std.proofs.Common.{◌∙◌}
use Rattle.swim_node.proofs.Filing.{placed_notes}
use Rattle.swim_node.proofs.Reading.{notes_are}
use Rattle.swim_node.specs.Following.{filings_of}
use Rattle.swim_node.proofs.locked.Locked.compare_followed.Goals as goal

pub compare-requires : goal.compare-requires
compare-requires g c = rw (c.self.invariant.4) (placed_notes g.N.Naming.cells c.self.inside.recorder.past)

pub returns-clause-begins : goal.returns-clause-begins
returns-clause-begins g c =
    let past = c.self.inside.recorder.past in
    rw (← c.self.view_is)
    (c.compare.ensures.begins (filings_of past) (c.self.invariant.4 ∙ notes_are g.N.Naming.cells past))
