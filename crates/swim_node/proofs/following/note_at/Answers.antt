use Rattle.std.proofs.Common.{rules, ◌≡◌, length, slice_get, Some, refl}
use Rattle.std.proofs.lemmas.Option.{slice_get_read}
use Rattle.swim_node.proofs.following.note_at.Goals as goal

pub returns-clause-cell : goal.returns-clause-cell
returns-clause-cell g c =
    let own = c.args.own.now.items in
    let here : slice_get own c.args.index ≡ Some c.index_mut.result.now =
    slice_get_read own (length own) c.args.index c.index_mut.result.now refl (search rules) (search rules) in
    rw c.again.ensures.again ((c.requires.placed c.args.index c.index_mut.result.now here).0)

pub returns-clause-known : goal.returns-clause-known
returns-clause-known g c =
    let own = c.args.own.now.items in
    let here : slice_get own c.args.index ≡ Some c.index_mut.result.now =
    slice_get_read own (length own) c.args.index c.index_mut.result.now refl (search rules) (search rules) in
    rw c.again.ensures.again ((c.requires.placed c.args.index c.index_mut.result.now here).1)
