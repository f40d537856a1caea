-- What a search finds among rows that ascend by id, and what a change does at that place.
use Rattle.std.proofs.Common.{◌≡◌, ◌≢◌, ℕ, zero, suc, ◌+◌, ◌<◌, ◌≤◌, List, [], ◌∷◌, ◌++◌, length, get_or, set, take}
use Rattle.std.proofs.Common.{drop_of_length-le, append-nil, take_all, Some, None, Result, Ok, Err, IfOk, IfErr, refl}
use Rattle.std.proofs.Common.{sym, ap, ◌∙◌, arith}
use Rattle.std.proofs.Math.ListN.{length-set}
use Rattle.std.proofs.lemmas.List.Edits.{length-insert}
use Rattle.std.specs.List.{insert, remove, refill, AllByRecursion}
use Rattle.std.specs.List.Sorted.{IsSearchInRange, IsBinarySearchResult}
use Rattle.std.specs.Ordering.{nat_cmp, ordering_index}
use Rattle.std.proofs.lemmas.Cmp.{ranked}
use Rattle.std.proofs.lemmas.Bool.Decides.{nat_tests}
use Rattle.std.proofs.lemmas.Bool.{lt-ltb, le-ltb, eq-eqb, ne_eqb}
use Rattle.swim_history.specs.declared.rows.Row.{Row}
use Rattle.swim_history.specs.declared.rows.Change.TheVariants as change
use Rattle.swim_history.specs.Rows.{row_at, failed}
use Rattle.swim_history.specs.Changes.{put, IsAscending, after_change}
use Rattle.swim_history.specs.Places.{IsAt, IsGapFor}
use Rattle.swim_history.proofs.Each.{each_at}

-- in the others, a row is one place lower
is_at_tail : (row : Row) (rows : List Row) (id place : ℕ) → IsAt (row ∷ rows) id (suc place) → IsAt rows id place
is_at_tail row rows id place is = record { in_range = omega (arith, is.in_range); has_id = λ d. is.has_id d }

gap_tail : (row : Row) (rows : List Row) (id place : ℕ) → IsGapFor (row ∷ rows) id (suc place) → IsGapFor rows id place
gap_tail row rows id place gap = record {
  in_range = omega (arith, gap.in_range);
  lower_before = λ k d lt. gap.lower_before (suc k) d (omega arith);
  higher_after = λ k d le lt. gap.higher_after (suc k) d (omega arith) (omega arith);
}

-- ids before that of a row are lower
first_lower : (row : Row) (rows : List Row) (id place : ℕ) → IsAscending (row ∷ rows) →
    IsAt (row ∷ rows) id (suc place) → row.id < id
first_lower row rows id place ascends is =
    let lower : row.id < (get_or rows place row).id =
    each_at (λ x. row.id < x.id) rows place row ascends.0 (omega (arith, is.in_range)) in
    omega (arith, is.has_id row)

-- no row is that member's
abbrev pub AreOthers : ℕ → List Row → Type 0
AreOthers id rows = AllByRecursion (λ row. row.id ≢ id) rows

others_above : (id : ℕ) (rows : List Row) → AllByRecursion (λ row. id < row.id) rows → AreOthers id rows
others_above id [] each = tt
others_above id (row ∷ rows) each = (λ same. omega (arith, each.0, same), others_above id rows each.1)

others_by_gap : (rows : List Row) (id place : ℕ) → IsGapFor rows id place → AreOthers id rows
others_by_gap [] id place gap = tt
others_by_gap (row ∷ rows) id zero gap = (
  λ same. omega (arith, gap.higher_after 0 row (omega arith) (omega arith)),
  others_by_gap rows id zero (record {
    in_range = omega arith;
    lower_before = λ k d lt. absurd (omega arith);
    higher_after = λ k d le lt. gap.higher_after (suc k) d (omega arith) (omega arith);
  }),
)
others_by_gap (row ∷ rows) id (suc place) gap = (
  λ same. omega (arith, gap.lower_before 0 row (omega arith)),
  others_by_gap rows id place (gap_tail row rows id place gap),
)

-- the row of a member that isn't there, and what a change of it does
none_among : (id : ℕ) (rows : List Row) → AreOthers id rows → row_at rows id ≡ None
none_among id [] others = refl
none_among id (row ∷ rows) others = rw (ne_eqb row.id id others.0) (none_among id rows others.1)

failed_among : (id number : ℕ) (rows : List Row) → AreOthers id rows →
    after_change (change.Failed id number) rows ≡ rows
failed_among id number [] others = refl
failed_among id number (row ∷ rows) others =
    rw (ne_eqb row.id id others.0) (ap (λ x. row ∷ x) (failed_among id number rows others.1))

gone_among : (id : ℕ) (rows : List Row) → AreOthers id rows → after_change (change.Gone id) rows ≡ rows
gone_among id [] others = refl
gone_among id (row ∷ rows) others = rw (ne_eqb row.id id others.0) (ap (λ x. row ∷ x) (gone_among id rows others.1))

-- a row put where one with its id stands, and where none does
pub put_at : (new : Row) (rows : List Row) (place : ℕ) → IsAscending rows → IsAt rows new.id place →
    put new rows ≡ set rows place new
put_at new [] place ascends is = absurd (omega (arith, is.in_range))
put_at new (row ∷ rows) zero ascends is =
    let same : row.id ≡ new.id = is.has_id row in
    rw (le-ltb new.id row.id (omega arith), eq-eqb new.id row.id (sym same)) refl
put_at new (row ∷ rows) (suc place) ascends is =
    let lower : row.id < new.id = first_lower row rows new.id place ascends is in
    rw (le-ltb new.id row.id (omega arith), ne_eqb new.id row.id (λ e. omega arith))
    (ap (λ x. row ∷ x) (put_at new rows place ascends.1 (is_at_tail row rows new.id place is)))

pub put_in_gap : (new : Row) (rows : List Row) (place : ℕ) → IsGapFor rows new.id place →
    put new rows ≡ insert rows place new
put_in_gap new [] zero gap = refl
put_in_gap new [] (suc place) gap = absurd (omega (arith, gap.in_range))
put_in_gap new (row ∷ rows) zero gap =
    rw (lt-ltb new.id row.id (gap.higher_after 0 row (omega arith) (omega arith))) refl
put_in_gap new (row ∷ rows) (suc place) gap =
    let lower : row.id < new.id = gap.lower_before 0 row (omega arith) in
    rw (le-ltb new.id row.id (omega arith), ne_eqb new.id row.id (λ e. omega arith))
    (ap (λ x. row ∷ x) (put_in_gap new rows place (gap_tail row rows new.id place gap)))

pub put_finds_room : (new : Row) (rows : List Row) (place : ℕ) → IsGapFor rows new.id place →
    length (put new rows) ≡ length rows + 1
put_finds_room new rows place gap = ap length (put_in_gap new rows place gap) ∙
    length-insert rows place new gap.in_range

-- a row written over, as an `ArrayVec` shows it
pub written : (rows : List Row) (place : ℕ) (row : Row) →
    refill (length rows) rows (set rows place row) ≡ set rows place row
written rows place row =
    ap (λ (rest : List Row). take (length rows) (set rows place row ++ rest))
    (drop_of_length-le rows (omega (arith, length-set {A = Row})))
    ∙ ap (take (length rows)) (append-nil (set rows place row))
    ∙ take_all (length rows) (set rows place row) (omega (arith, length-set {A = Row}))

-- a row that fails
pub failed_at : (id number : ℕ) (rows : List Row) (place : ℕ) (d : Row) → IsAscending rows → IsAt rows id place →
    after_change (change.Failed id number) rows ≡ set rows place (failed number (get_or rows place d))
failed_at id number [] place d ascends is = absurd (omega (arith, is.in_range))
failed_at id number (row ∷ rows) zero d ascends is =
    let same : row.id ≡ id = is.has_id row in
    rw (eq-eqb row.id id same)
    (ap (λ x. failed number row ∷ x) (failed_among id number rows (others_above id rows (rw same at ascends.0))))
failed_at id number (row ∷ rows) (suc place) d ascends is =
    let lower : row.id < id = first_lower row rows id place ascends is in
    rw (ne_eqb row.id id (λ e. omega arith))
    (ap (λ x. row ∷ x) (failed_at id number rows place d ascends.1 (is_at_tail row rows id place is)))

pub failed_in_gap : (id number : ℕ) (rows : List Row) (place : ℕ) → IsGapFor rows id place →
    after_change (change.Failed id number) rows ≡ rows
failed_in_gap id number rows place gap = failed_among id number rows (others_by_gap rows id place gap)

-- a row that goes
pub gone_at : (id : ℕ) (rows : List Row) (place : ℕ) → IsAscending rows → IsAt rows id place →
    after_change (change.Gone id) rows ≡ remove rows place
gone_at id [] place ascends is = absurd (omega (arith, is.in_range))
gone_at id (row ∷ rows) zero ascends is =
    let same : row.id ≡ id = is.has_id row in
    rw (eq-eqb row.id id same) (gone_among id rows (others_above id rows (rw same at ascends.0)))
gone_at id (row ∷ rows) (suc place) ascends is =
    let lower : row.id < id = first_lower row rows id place ascends is in
    rw (ne_eqb row.id id (λ e. omega arith))
    (ap (λ x. row ∷ x) (gone_at id rows place ascends.1 (is_at_tail row rows id place is)))

pub gone_in_gap : (id : ℕ) (rows : List Row) (place : ℕ) → IsGapFor rows id place →
    after_change (change.Gone id) rows ≡ rows
gone_in_gap id rows place gap = gone_among id rows (others_by_gap rows id place gap)

-- the row that is found
pub found_at : (rows : List Row) (id place : ℕ) (d : Row) → IsAscending rows → IsAt rows id place →
    row_at rows id ≡ Some (get_or rows place d)
found_at [] id place d ascends is = absurd (omega (arith, is.in_range))
found_at (row ∷ rows) id zero d ascends is = rw (eq-eqb row.id id (is.has_id row)) refl
found_at (row ∷ rows) id (suc place) d ascends is =
    let lower : row.id < id = first_lower row rows id place ascends is in
    rw (ne_eqb row.id id (λ e. omega arith)) (found_at rows id place d ascends.1 (is_at_tail row rows id place is))

pub found_in_gap : (rows : List Row) (id place : ℕ) → IsGapFor rows id place → row_at rows id ≡ None
found_in_gap rows id place gap = none_among id rows (others_by_gap rows id place gap)

-- a binary search ends at the member's row, or where it would stand
ids_rise : (rows : List Row) → IsAscending rows → (i j : ℕ) (d : Row) → i ≤ j → j < length rows →
    (get_or rows i d).id ≤ (get_or rows j d).id
ids_rise [] ascends i j d le lt = absurd (omega arith)
ids_rise (row ∷ rows) ascends zero zero d le lt = omega arith
ids_rise (row ∷ rows) ascends zero (suc j) d le lt =
    omega (arith, each_at (λ x. row.id < x.id) rows j d ascends.0 (omega arith))
ids_rise (row ∷ rows) ascends (suc i) zero d le lt = absurd (omega arith)
ids_rise (row ∷ rows) ascends (suc i) (suc j) d le lt = ids_rise rows ascends.1 i j d (omega arith) (omega arith)

comparisons_rise : (id low high : ℕ) → low ≤ high → ordering_index (nat_cmp low id) ≤ ordering_index (nat_cmp high id)
comparisons_rise id low high le = grind (arith, nat_tests)

pub searched : (rows : List Row) (id : ℕ) (result : Result ℕ ℕ) → IsAscending rows →
    IsSearchInRange result (length rows) → IsBinarySearchResult (λ row. nat_cmp row.id id) rows result →
    IfOk result (IsAt rows id) × IfErr result (IsGapFor rows id)
searched rows id (Ok place) ascends in_range equal =
    (record { in_range = in_range; has_id = λ d. ranked _ id _ (sym (equal d)) }, tt)
searched rows id (Err place) ascends in_range parted =
    let rise = parted (λ i j d le lt. comparisons_rise id (get_or rows i d).id (get_or rows j d).id
    (ids_rise rows ascends i j d le lt)) in (
      tt,
      record {
        in_range = in_range;
        lower_before = λ k d lt. ranked _ id _ (sym (rise.0 k d (omega arith) lt));
        higher_after = λ k d le lt. ranked _ id _ (sym (rise.1 k d le lt));
      },
    )
