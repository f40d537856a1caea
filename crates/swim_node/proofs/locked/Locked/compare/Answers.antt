use Rattle.std.proofs.Common.{◌≡◌, sym, ◌∙◌, length}
use Rattle.swim_history.specs.Run.{IsRun}
use Rattle.swim_history.specs.Seats.{kept_of}
use Rattle.swim_node.specs.Cells.{notes_of, AreNoted}
use Rattle.swim_node.proofs.Filing.{placed_notes, hold_calls}
use Rattle.swim_node.proofs.locked.Locked.compare.Goals as goal

pub compare-requires : goal.compare-requires
compare-requires g c = rw (c.self.invariant.4) (placed_notes g.N.Naming.cells c.self.inside.recorder.past)

pub returns-clause-calls : goal.returns-clause-calls
returns-clause-calls g c =
    let cells = g.N.Naming.cells in
    let past = c.self.inside.recorder.past in
    let seat = c.seat.inside.tally.seat in
    let calls = c.seat.inside.calls.items in
    let run : IsRun g.N.Naming.opening past =
    rw (c.journal.ensures.past, c.journal.ensures.opening ∙ c.self.invariant.0) at c.len-run.ensures.run in
    let count = sym c.seat.invariant.0 ∙ sym c.audit.ensures.count ∙ c.self.invariant.2 seat c.audit.ensures.seat in
    let known : AreNoted cells seat calls (notes_of cells past) (length calls) =
    rw (c.audit.ensures.tally, c.self.invariant.4) at c.compare.ensures.noted in
    let held : calls ≡ kept_of seat past =
    hold_calls g.N.Naming.opening cells past seat calls run count c.seat.invariant.1 known in
    rw (← c.seat.view_is, ← c.self.view_is) held
