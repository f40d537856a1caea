use Rattle.std.proofs.Common.{rules, ◌≡◌, length, slice_get, Some, sym, ap, refl, ◌∙◌}
use Rattle.std.proofs.lemmas.Option.{slice_get_read}
use Rattle.swim_node.proofs.cells.compare_at.Goals as goal

pub compare-requires-clause-cell : goal.compare-requires-clause-cell
compare-requires-clause-cell g c =
    let notes = c.args.notes.now.items in
    let here : slice_get notes c.args.place ≡ Some c.index_mut.result.now =
    slice_get_read notes (length notes) c.args.place c.index_mut.result.now refl (search rules) (search rules) in
    c.requires.cell ∙ sym (c.requires.placed c.args.place c.index_mut.result.now here).0

pub compare-requires-clause-known : goal.compare-requires-clause-known
compare-requires-clause-known g c =
    let notes = c.args.notes.now.items in
    let here : slice_get notes c.args.place ≡ Some c.index_mut.result.now =
    slice_get_read notes (length notes) c.args.place c.index_mut.result.now refl (search rules) (search rules) in
    ((c.requires.placed c.args.place c.index_mut.result.now here).1, c.requires.some)

pub returns-then-is_there-clause-agree : goal.returns-then-is_there-clause-agree
returns-then-is_there-clause-agree g c is =
    let notes = c.args.notes.now.items in
    let here : slice_get notes c.args.place ≡ Some c.index_mut.result.now =
    slice_get_read notes (length notes) c.args.place c.index_mut.result.now refl (search rules) (search rules) in
    here ∙ ap (λ n. Some n) c.compare.ensures.agree
