-- Room for one more member in a table.
use Rattle.std.proofs.Common.{◌≡◌, ◌≢◌, ◌+◌, ◌<◌, ◌≤◌, nat_lt, nat_le, List, [], ◌∷◌, length, Option, None, Some}
use Rattle.std.proofs.Common.{is_some, refl, sym, ◌∙◌, arith}
use Rattle.std.proofs.lemmas.Bool.{lt-ltb, le-leb, lt-leb}
use Rattle.std.proofs.lemmas.Bool.Decides.{nat_tests}
use Rattle.swim_history.specs.declared.rows.Row.{Row}
use Rattle.swim_history.specs.Rows.{row_at}
use Rattle.swim_history.specs.Changes.{put, IsAscending}
use Rattle.swim_history.specs.Laws.Table.{put_length, put_length-known}

put_more : (new row : Row) (rows : List Row) → (row_at rows new.id ≡ None → length (put new rows) ≡ length rows + 1) →
    row_at (row ∷ rows) new.id ≡ None → length (put new (row ∷ rows)) ≡ length (row ∷ rows) + 1
put_more new row rows again none = grind (arith, nat_tests)

-- a row put makes one more where its id isn't among the others
put_length-new : (new : Row) (rows : List Row) → row_at rows new.id ≡ None → length (put new rows) ≡ length rows + 1
put_length-new new [] none = refl
put_length-new new (row ∷ rows) none = put_more new row rows (put_length-new new rows) none

-- whether there is room for a row: always in a table that isn't full
pub room_left : (new : Row) (rows : List Row) → length rows < 128 →
    nat_lt (length rows) 128 ≡ nat_le (length (put new rows)) 128
room_left new rows few = let most = put_length new rows in
    lt-ltb (length rows) 128 few ∙ sym (le-leb (length (put new rows)) 128 (omega (arith, most)))

-- in a full one, where its id is among the others
pub room_known : (new : Row) (rows : List Row) (row : Option Row) → IsAscending rows → 128 ≤ length rows →
    length rows ≤ 128 → row ≡ row_at rows new.id → is_some row ≡ nat_le (length (put new rows)) 128
room_known new rows None ascends full bound found =
    sym (lt-leb (length (put new rows)) 128 (omega (arith, put_length-new new rows (sym found))))
room_known new rows (Some row) ascends full bound found =
    let known : row_at rows new.id ≢ None = λ none. absurd cc in
    sym (le-leb (length (put new rows)) 128 (omega (arith, put_length-known new rows ascends known)))
