use Rattle.std.proofs.Common.{rules, ◌≡◌, ◌<◌, length, slice_get, Some, sym, ap, refl, arith, ◌∙◌, reverse}
use Rattle.std.specs.Option.{option_map}
use Rattle.std.proofs.lemmas.Option.{slice_get_read}
use Rattle.swim_history.specs.Called.{called_of, entry_of}
use Rattle.swim_history.specs.Laws.Called.{called_there}
use Rattle.swim_node.proofs.Filing.{notes_length}
use Rattle.swim_node.proofs.Reading.{note_is}
use Rattle.swim_node.proofs.locked.Locked.read.Goals as goal

pub index_mut-requires : goal.index_mut-requires
index_mut-requires g c =
    omega (
      arith,
      c.if-place-len.false,
      c.len.ensures.value,
      ap length c.journal-journal.ensures.past,
      ap length c.self.invariant.4,
      notes_length g.N.Naming.cells c.self.inside.recorder.past,
    )

pub returns-clause-note : goal.returns-clause-note
returns-clause-note g c =
    let cells = g.N.Naming.cells in
    let past = c.self.inside.recorder.past in
    let place = c.args.place in
    let called = c.in-Some.called in
    let notes = c.self.inside.notes.items in
    let note = c.index_mut.result.now in
    let within : place < length notes =
    omega (
      arith,
      c.if-place-len.false,
      c.len.ensures.value,
      ap length c.journal-journal.ensures.past,
      ap length c.self.invariant.4,
      notes_length g.N.Naming.cells past,
    ) in
    let there : slice_get notes place ≡ Some note =
    slice_get_read notes (length notes) place note refl within (search rules) in
    let is : Some called ≡ option_map called_of (slice_get (reverse past) place) = search rules in
    let found = called_there (slice_get (reverse past) place) called is in
    c.again-note.ensures.again
    ∙ note_is cells past notes place (entry_of called found.0) note c.self.invariant.4 there (sym found.1)
