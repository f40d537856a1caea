use Rattle.std.proofs.Common.{◌≡◌, ◌≤◌, ◌∷◌, [], ◌++◌, length, append_assoc, append-nil, length-append, sym, ap, ◌∙◌}
use Rattle.std.proofs.Common.{arith}
use Rattle.std.proofs.lemmas.List.{nil_from_length}
use Rattle.swim_history.specs.Changes.{ascending, put}
use Rattle.swim_history.specs.Laws.Table.{ascending_ascends, ascending_length}
use Rattle.swim_history.proofs.tables.table_of.Goals as goal

pub loop-row-init : goal.loop-row-init
loop-row-init c = (
  [],
  rw (c.into_iter-row-iterator.ensures.into_iter_gives, c.rev-row-items.ensures.source)
      (sym (append-nil c.iter.result.rest.now ∙ c.iter.ensures.rest)),
  c.new-table.ensures,
)

pub put-requires-clause-ascends : goal.put-requires-clause-ascends
put-requires-clause-ascends c = rw c.loop-row.invariant.2 (ascending_ascends c.loop-row.invariant.0)

pub put-requires-clause-fits : goal.put-requires-clause-fits
put-requires-clause-fits c =
    let last = c.loop-row.invariant.0 in
    let whole : c.args.rows.now ≡ c.next.new.self.iter.rest.now ++ c.in-Some.row.now ∷ last =
    c.loop-row.invariant.1 ∙
    rw c.in-Some.ensures.steps (append_assoc c.next.new.self.iter.rest.now (c.in-Some.row.now ∷ []) last) in
    let bound : length (ascending (c.in-Some.row.now ∷ last)) ≤ 128 =
    omega (
      arith,
      ascending_length (c.in-Some.row.now ∷ last),
      ap length whole,
      length-append c.next.new.self.iter.rest.now (c.in-Some.row.now ∷ last),
      c.requires,
    ) in
    rw c.loop-row.invariant.2 bound

pub loop-row-preserved : goal.loop-row-preserved
loop-row-preserved c = (
  c.in-Some.row.now ∷ c.loop-row.invariant.0,
  c.loop-row.invariant.1 ∙
      rw c.in-Some.ensures.steps
      (append_assoc c.next.new.self.iter.rest.now (c.in-Some.row.now ∷ []) c.loop-row.invariant.0),
  c.put.ensures ∙ ap (put c.in-Some.row.now) c.loop-row.invariant.2,
)

pub returns : goal.returns
returns c =
    c.loop-row.invariant.2 ∙
    ap ascending (sym (c.loop-row.invariant.1 ∙
    ap (λ rest. rest ++ c.loop-row.invariant.0)
    (nil_from_length c.loop-row.row-iterator.iter.rest.now c.in-None.ensures.steps.0)))
