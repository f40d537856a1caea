-- As many rows of the member table are up as members are listed.
use Rattle.std.proofs.Common.{◌≡◌, ℕ, false, List, [], ◌∷◌, length, refl, sym, ap, ◌∙◌, arith}
use Rattle.std.proofs.lemmas.Bool.{or_from}
use Rattle.std.proofs.lemmas.List.{length-map}
use Rattle.std.specs.Prelude.{filter, is_some}
use Rattle.swim_wire.specs.Ids.{has, has_twice}
use Rattle.swim_history.specs.declared.rows.Row.{Row}
use Rattle.swim_history.specs.declared.entries.Entry.{Entry}
use Rattle.swim_history.specs.Setting.{Setting, IsSetting, ids_of, is_state_up}
use Rattle.swim_history.specs.Changes.{IsAscending, table}
use Rattle.swim_history.specs.Laws.Table.{none_below, table_ascends, table_shows}
use Rattle.swim_history.specs.Rows.{is_up}
use Rattle.swim_history.specs.Round.{listed}
use Rattle.swim_history.specs.Run.{IsRun}
use Rattle.swim_history.specs.Laws.Listed.{has_row, listed_first, once_up, listed_is, listed_once, no_longer}

-- no id of rows that ascend stands twice
ascending_once : (rows : List Row) → IsAscending rows → has_twice (ids_of rows) ≡ false
ascending_once [] ascends = refl
ascending_once (row ∷ rows) ascends =
    or_from (has (ids_of rows) row.id) (has_twice (ids_of rows))
    (has_row rows row.id ∙ ap is_some (none_below row.id rows ascends.0)) (ascending_once rows ascends.1)

pub up_rows : (o : Setting) (h : List Entry) → IsSetting o → IsRun o h →
    length (filter (λ row. is_state_up row.state) (table o h)) ≡ length (listed o h)
up_rows o h s run =
    let most = no_longer ids (listed o h) (once_up rows once) (λ id is. sym (same id) ∙ is) in
    let least = no_longer (listed o h) ids (listed_once o h s run) (λ id is. same id ∙ is) in
    omega (arith, most, least, length-map ups (λ row. row.id))
  where
    rows : List Row
    rows = table o h

    ups : List Row
    ups = filter (λ row. is_state_up row.state) rows

    ids : List ℕ
    ids = ids_of ups

    once : has_twice (ids_of rows) ≡ false
    once = ascending_once rows (table_ascends o h)

    same : (id : ℕ) → has ids id ≡ has (listed o h) id
    same id = listed_first rows once id ∙ ap is_up (table_shows o h id) ∙ sym (listed_is o h s run id)
