-- A setting of which a member failed in a period that was used is one.
use Rattle.std.proofs.Common.{◌≡◌, ℕ, suc, Bool, true, false, cond, eqb, List, [], ◌∷◌, length, map, refl, ap}
use Rattle.std.proofs.lemmas.Bool.{and_parts}
use Rattle.std.specs.List.{list_all}
use Rattle.swim_history.specs.declared.rows.Row.{Row}
use Rattle.swim_history.specs.declared.rows.RowState.TheVariants.{Failed}
use Rattle.swim_history.specs.Rows.{failed}
use Rattle.swim_history.specs.Setting.{Setting, IsSetting, ids_of, is_state_past}
use Rattle.swim_history.specs.Check.{setting_failed}

-- the rows, of which that member's tells that it failed
abbrev rows_failed : ℕ → ℕ → List Row → List Row
rows_failed id number rows = map (λ row. cond (eqb row.id id) (failed number row) row) rows

same_id : (row : Row) (number : ℕ) (is : Bool) → (cond is (failed number row) row).id ≡ row.id
same_id row number true = refl
same_id row number false = refl

same_ids : (id number : ℕ) (rows : List Row) → ids_of (rows_failed id number rows) ≡ ids_of rows
same_ids id number [] = refl
same_ids id number (row ∷ rows) = rw (same_id row number (eqb row.id id), same_ids id number rows) refl

same_length : (id number : ℕ) (rows : List Row) → length (rows_failed id number rows) ≡ length rows
same_length id number [] = refl
same_length id number (row ∷ rows) = ap (λ n. suc n) (same_length id number rows)

past : (last number : ℕ) (row : Row) (is : Bool) → is_state_past last (Failed number) ≡ true →
    is_state_past last row.state ≡ true →
    is_state_past last (cond is (failed number row) row).state ≡ true
past last number row true used before = used
past last number row false used before = before

all_past : (last id number : ℕ) (rows : List Row) → is_state_past last (Failed number) ≡ true →
    list_all (λ row. is_state_past last row.state) rows ≡ true →
    list_all (λ row. is_state_past last row.state) (rows_failed id number rows) ≡ true
all_past last id number [] used before = refl
all_past last id number (row ∷ rows) used before =
    let parts = and_parts (is_state_past last row.state) (list_all (λ row. is_state_past last row.state) rows) before in
    rw (past last number row (eqb row.id id) used parts.0, all_past last id number rows used parts.1) refl

pub failed_is : (o : Setting) (id number : ℕ) → IsSetting o → is_state_past o.last (Failed number) ≡ true →
    IsSetting (setting_failed id number o)
failed_is o id number s used = record {
  relays = s.relays;
  timing = s.timing;
  rows = rw (same_length id number o.rows) s.rows;
  others = rw (same_ids id number o.rows) s.others;
  once = rw (same_ids id number o.rows) s.once;
  states = all_past o.last id number o.rows used s.states;
  last = s.last;
}
