use Rattle.std.proofs.Common.{rules}
use Rattle.std.proofs.lemmas.List.Sorted.{answers_always}
use Rattle.swim_history.proofs.Places.{searched}
use Rattle.swim_history.proofs.tables.search.Goals as goal

-- the closure gives a row's id
pub returns : goal.returns
returns c =
    let facts = c.binary_search_by_key.ensures in
    let by_id = facts.position (λ row. row.id) (answers_always _ _ _ (λ f a r g called. search rules)) in
    let ends = searched c.args.rows.now c.args.id _ c.requires facts.bound by_id in
    record { found = ends.0; absent = ends.1 }
