-- The table that is made of lines.
use Rattle.std.proofs.Common.{◌≡◌, ℕ, Bool, true, false, cond, nat_lt, eqb, not, List, [], ◌∷◌, ◌++◌, map, refl, sym}
use Rattle.std.proofs.Common.{ap, ◌∙◌}
use Rattle.std.proofs.lemmas.Bool.{lt-ltb}
use Rattle.swim_history.specs.declared.rows.Row.{Row}
use Rattle.swim_history.specs.declared.rows.RowState.{RowState}
use Rattle.swim_history.specs.declared.rows.RowState.TheVariants as states
use Rattle.swim_history.specs.declared.rows.Change.{Change}
use Rattle.swim_history.specs.declared.rows.Change.TheVariants.{Up, Failed, Gone}
use Rattle.swim_history.specs.declared.entries.Entry.{Entry}
use Rattle.swim_history.specs.Setting.{Setting}
use Rattle.swim_history.specs.Rows.{up, failed}
use Rattle.swim_history.specs.Changes.{after_change, ascending, changes, IsAscending, put, rows_after, table}
use Rattle.swim_history.specs.After.{setting_after}
use Rattle.swim_history.specs.Laws.Table.{rows_after-append, table_ascends}
use Rattle.swim_events.specs.Texts.{shown, shown_as}
use Rattle.swim_events.specs.Watched.{lines_after, lines_then, member_of, put_line}

-- a row's line names its member
names : (row : Row) → member_of (shown row) ≡ row.id
names row = by row.state
  where
    by : (state : RowState) → member_of (shown_as row.id row.peer state) ≡ row.id
    by states.Up = refl
    by (states.Failed number) = refl

pub goes_on_rows : (o : Setting) (h before : List Entry) (later : List Change) →
    changes o h ≡ changes o before ++ later →
    table o h ≡ rows_after (table o before) later
goes_on_rows o h before later goes_on =
    ap (rows_after (ascending o.rows)) goes_on ∙ rows_after-append (ascending o.rows) (changes o before) later

-- rows that ascend already
ascending_is : (rows : List Row) → IsAscending rows → ascending rows ≡ rows
ascending_is [] ascends = refl
ascending_is (row ∷ rows) ascends = ap (put row) (ascending_is rows ascends.1) ∙ first rows ascends
  where
    first : (others : List Row) → IsAscending (row ∷ others) → put row others ≡ row ∷ others
    first [] above = refl
    first (other ∷ others) above = rw (lt-ltb row.id other.id above.0.0) refl

pub life_begins : (o : Setting) (h : List Entry) → table (setting_after o h) [] ≡ table o h
life_begins o h = ascending_is (table o h) (table_ascends o h)

pub life_goes_on : (o : Setting) (h later : List Entry) →
    table (setting_after o h) later ≡ rows_after (table o h) (changes (setting_after o h) later)
life_goes_on o h later = ap (λ (rows : List Row). rows_after rows (changes (setting_after o h) later)) (life_begins o h)

-- a choice of rows is one of lines
shown_choice : (b : Bool) (row other : Row) → shown (cond b row other) ≡ cond b (shown row) (shown other)
shown_choice true row other = refl
shown_choice false row other = refl

put_shown : (new : Row) (rows : List Row) → map shown (put new rows) ≡ put_line (shown new) (map shown rows)
put_shown new [] = refl
put_shown new (row ∷ rows) =
    rw (names new, names row) (by (nat_lt new.id row.id) (eqb new.id row.id) (put_shown new rows))
  where
    by : (less same : Bool) → map shown (put new rows) ≡ put_line (shown new) (map shown rows) →
        map shown (cond less (new ∷ row ∷ rows) (cond same (new ∷ rows) (row ∷ put new rows)))
        ≡ cond less (shown new ∷ shown row ∷ map shown rows)
        (cond same (shown new ∷ map shown rows) (shown row ∷ put_line (shown new) (map shown rows)))
    by true same again = refl
    by false true again = refl
    by false false again = ap (λ l. shown row ∷ l) again

failed_shown : (id number : ℕ) (rows : List Row) →
    map shown (after_change (Failed id number) rows) ≡ lines_then (Failed id number) (map shown rows)
failed_shown id number [] = refl
failed_shown id number (row ∷ rows) =
    let first : shown (cond (eqb row.id id) (failed number row) row)
    ≡ cond (eqb (member_of (shown row)) id) (Failed (member_of (shown row)) number) (shown row) =
    shown_choice (eqb row.id id) (failed number row) row
    ∙ ap (λ (m : ℕ). cond (eqb m id) (Failed m number) (shown row)) (sym (names row)) in
    ap (λ (line : Change). line ∷ map shown (after_change (Failed id number) rows)) first
    ∙ ap (λ (lines : List Change). cond (eqb (member_of (shown row)) id) (Failed (member_of (shown row)) number)
    (shown row) ∷ lines)
    (failed_shown id number rows)

gone_shown : (id : ℕ) (rows : List Row) →
    map shown (after_change (Gone id) rows) ≡ lines_then (Gone id) (map shown rows)
gone_shown id [] = refl
gone_shown id (row ∷ rows) = rw (names row) (by (not (eqb row.id id)) (gone_shown id rows))
  where
    by : (stays : Bool) → map shown (after_change (Gone id) rows) ≡ lines_then (Gone id) (map shown rows) →
        map shown (cond stays (row ∷ after_change (Gone id) rows) (after_change (Gone id) rows))
        ≡ cond stays (shown row ∷ lines_then (Gone id) (map shown rows)) (lines_then (Gone id) (map shown rows))
    by true again = ap (λ l. shown row ∷ l) again
    by false again = again

change_shown : (change : Change) (rows : List Row) →
    map shown (after_change change rows) ≡ lines_then change (map shown rows)
change_shown (Up id peer) rows = put_shown (up id peer) rows
change_shown (Failed id number) rows = failed_shown id number rows
change_shown (Gone id) rows = gone_shown id rows

-- the table's lines are those that its changes make of the first ones
pub lines_are : (rows : List Row) (later : List Change) →
    map shown (rows_after rows later) ≡ lines_after (map shown rows) later
lines_are rows [] = refl
lines_are rows (change ∷ later) =
    lines_are (after_change change rows) later ∙ ap (λ lines. lines_after lines later) (change_shown change rows)
