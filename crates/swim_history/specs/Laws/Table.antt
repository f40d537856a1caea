-- Laws of the member table: it shows the row of each member, its ids ascend, and in a run it has at most 128 rows.
use Rattle.std.proofs.Common.{◌≡◌, ◌≢◌, ℕ, suc, ◌+◌, ◌<◌, ◌≤◌, ◌==◌, Bool, true, false, cond, not, nat_lt, List, []}
use Rattle.std.proofs.Common.{◌∷◌, ◌++◌, length, Option, Some, None, refl, sym, ap, ◌∙◌, arith}
use Rattle.std.proofs.lemmas.Bool.{ltb-true, ltb-false, eqb-true, eqb-false, ne_eqb, cond_both}
use Rattle.std.proofs.lemmas.Bool.Decides.{nat_tests}
use Rattle.std.proofs.lemmas.Option.{same_Some}
use Rattle.std.specs.List.{AllByRecursion}
use Rattle.std.specs.Option.{option_map, option_to_list}
use Rattle.swim_wire.specs.Address.{Address}
use Rattle.swim_history.specs.declared.rows.Row.{Row}
use Rattle.swim_history.specs.declared.rows.RowState.{RowState}
use Rattle.swim_history.specs.declared.rows.RowState.TheVariants as state
use Rattle.swim_history.specs.declared.rows.Change.{Change}
use Rattle.swim_history.specs.declared.rows.Change.TheVariants as change
use Rattle.swim_history.specs.declared.calls.Call.{Call}
use Rattle.swim_history.specs.declared.calls.Call.TheVariants.{Tick, Join, Remove}
use Rattle.swim_history.specs.declared.replies.Reply.{Reply}
use Rattle.swim_history.specs.declared.replies.Reply.TheVariants.{Started, Joined, Removed}
use Rattle.swim_history.specs.declared.entries.Choice.{Choice}
use Rattle.swim_history.specs.declared.entries.Choice.TheVariants.{Nothing}
use Rattle.swim_history.specs.declared.entries.Entry.{Entry}
use Rattle.swim_history.specs.Setting.{Setting, IsSetting}
use Rattle.swim_history.specs.Clock.{period_number}
use Rattle.swim_history.specs.Rows.{up, failed, row_at, row_then, row_of, is_up, is_listed}
use Rattle.swim_history.specs.Changes.{change_by, changes, put, ascending, IsAscending, after_change, rows_after, table}
use Rattle.swim_history.specs.Changes.{known_count}
use Rattle.swim_history.specs.Run.{Answers, IsRun}

-- what rows show after a change: one row more to look at leaves it so
put_shows_more : (new row : Row) (rows : List Row) (id : ℕ) → row_at (put new rows) id ≡ cond (new.id == id) (Some new)
    (row_at rows id) → row_at (put new (row ∷ rows)) id ≡ cond (new.id == id) (Some new) (row_at (row ∷ rows) id)
put_shows_more new row rows id again = grind (arith, nat_tests)

put_shows : (new : Row) (rows : List Row) (id : ℕ) → row_at (put new rows) id ≡ cond (new.id == id) (Some new)
    (row_at rows id)
put_shows new [] id = refl
put_shows new (row ∷ rows) id = put_shows_more new row rows id (put_shows new rows id)

failed_shows_more : (judged number : ℕ) (row : Row) (rows : List Row) (id : ℕ) →
    row_at (after_change (change.Failed judged number) rows) id ≡ cond (judged == id)
    (option_map (failed number) (row_at rows id)) (row_at rows id) →
    row_at (after_change (change.Failed judged number) (row ∷ rows)) id ≡ cond (judged == id)
    (option_map (failed number) (row_at (row ∷ rows) id)) (row_at (row ∷ rows) id)
failed_shows_more judged number row rows id again = grind (arith, nat_tests)

failed_none : (b : Bool) (number : ℕ) → cond {A = Option Row} b (option_map (failed number) None) None ≡ None
failed_none true number = refl
failed_none false number = refl

failed_shows : (judged number : ℕ) (rows : List Row) (id : ℕ) →
    row_at (after_change (change.Failed judged number) rows) id ≡ cond (judged == id)
    (option_map (failed number) (row_at rows id)) (row_at rows id)
failed_shows judged number [] id = sym (failed_none (judged == id) number)
failed_shows judged number (row ∷ rows) id =
    failed_shows_more judged number row rows id (failed_shows judged number rows id)

gone_shows_more : (gone : ℕ) (row : Row) (rows : List Row) (id : ℕ) → row_at (after_change (change.Gone gone) rows) id ≡
    cond (gone == id) None (row_at rows id) → row_at (after_change (change.Gone gone) (row ∷ rows)) id ≡ cond
    (gone == id) None (row_at (row ∷ rows) id)
gone_shows_more gone row rows id again = grind (arith, nat_tests)

gone_none : (b : Bool) → cond {A = Option Row} b None None ≡ None
gone_none true = refl
gone_none false = refl

gone_shows : (gone : ℕ) (rows : List Row) (id : ℕ) → row_at (after_change (change.Gone gone) rows) id ≡ cond
    (gone == id) None (row_at rows id)
gone_shows gone [] id = sym (gone_none (gone == id))
gone_shows gone (row ∷ rows) id = gone_shows_more gone row rows id (gone_shows gone rows id)

-- rows put in order show what they showed
ascending_shows_more : (row : Row) (rows : List Row) (id : ℕ) → row_at (ascending rows) id ≡ row_at rows id →
    row_at (put row (ascending rows)) id ≡ row_at (row ∷ rows) id
ascending_shows_more row rows id again =
    put_shows row (ascending rows) id ∙ ap (λ x. cond (row.id == id) (Some row) x) again

ascending_shows : (rows : List Row) (id : ℕ) → row_at (ascending rows) id ≡ row_at rows id
ascending_shows [] id = refl
ascending_shows (row ∷ rows) id = ascending_shows_more row rows id (ascending_shows rows id)

-- changes one after the other
pub rows_after-append : (rows : List Row) (first second : List Change) → rows_after rows (first ++ second) ≡ rows_after
    (rows_after rows first) second
rows_after-append rows [] second = refl
rows_after-append rows (change ∷ first) second = rows_after-append (after_change change rows) first second

-- the table after an entry: its change, if it makes one, is the last
pub table_next : (o : Setting) (h : List Entry) (e : Entry) → table o (e ∷ h) ≡ rows_after (table o h)
    (option_to_list (change_by e.call e.reply (period_number o h)))
table_next o h e =
    rows_after-append (ascending o.rows) (changes o h) (option_to_list (change_by e.call e.reply (period_number o h)))

-- what is shown after an entry's change is the member's row after the entry
change_shows : (call : Call) (reply : Reply) (number : ℕ) (rows : List Row) (id : ℕ) →
    row_at (rows_after rows (option_to_list (change_by call reply number))) id ≡ row_then call reply number id
    (row_at rows id)
change_shows (Join joiner peer) (Joined place) number rows id = put_shows (up joiner peer) rows id
change_shows (Remove gone) Removed number rows id = gone_shows gone rows id
change_shows Tick (Started (Some judged) probe) number rows id = failed_shows judged number rows id
change_shows call reply number rows id = refl

-- the table shows the row of each member
pub table_shows : (o : Setting) (h : List Entry) (id : ℕ) → row_at (table o h) id ≡ row_of o h id
table_shows o [] id = ascending_shows o.rows id
table_shows o (e ∷ h) id =
    ap (λ rows. row_at rows id) (table_next o h e)
    ∙ change_shows e.call e.reply (period_number o h) (table o h) id
    ∙ ap (row_then e.call e.reply (period_number o h) id) (table_shows o h id)

-- what holds of each row holds after a change, where it holds of the rows that the change makes
pub put_each : (P : Row → Type 0) (new : Row) (rows : List Row) → P new → AllByRecursion P rows →
    AllByRecursion P (put new rows)
put_each P new [] here each = (here, tt)
put_each P new (row ∷ rows) here each =
    cond_both (nat_lt new.id row.id) _ _ (AllByRecursion P) (λ _. (here, each))
    (λ _. cond_both (new.id == row.id) _ _ (AllByRecursion P) (λ _. (here, each.1))
    (λ _. (each.0, put_each P new rows here each.1)))

pub failed_each : (P : Row → Type 0) (judged number : ℕ) (rows : List Row) →
    ((row : Row) → P row → P (failed number row)) → AllByRecursion P rows →
    AllByRecursion P (after_change (change.Failed judged number) rows)
failed_each P judged number [] stays each = tt
failed_each P judged number (row ∷ rows) stays each = (
  cond_both (row.id == judged) _ _ P (λ _. stays row each.0)
      (λ _. each.0),
  failed_each P judged number rows stays each.1,
)

pub gone_each : (P : Row → Type 0) (gone : ℕ) (rows : List Row) → AllByRecursion P rows →
    AllByRecursion P (after_change (change.Gone gone) rows)
gone_each P gone [] each = tt
gone_each P gone (row ∷ rows) each =
    cond_both (not (row.id == gone)) _ _ (AllByRecursion P) (λ _. (each.0, gone_each P gone rows each.1))
    (λ _. gone_each P gone rows each.1)

pub ascending_each : (P : Row → Type 0) (rows : List Row) → AllByRecursion P rows → AllByRecursion P (ascending rows)
ascending_each P [] each = tt
ascending_each P (row ∷ rows) each = put_each P row (ascending rows) each.0 (ascending_each P rows each.1)

-- what is above an id is above those that are not above it
each_above : (low high : ℕ) (rows : List Row) → low ≤ high → AllByRecursion (λ row. high < row.id) rows →
    AllByRecursion (λ row. low < row.id) rows
each_above low high [] le each = tt
each_above low high (row ∷ rows) le each = (omega (arith, each.0), each_above low high rows le each.1)

-- each change keeps the ids ascending
put_ascends : (new : Row) (rows : List Row) → IsAscending rows → IsAscending (put new rows)
put_ascends new [] ascends = (tt, tt)
put_ascends new (row ∷ rows) ascends =
    cond_both (nat_lt new.id row.id) _ _ IsAscending
    (λ less. let lt = ltb-true new.id row.id less in
    ((lt, each_above new.id row.id rows (omega arith) ascends.0), ascends))
    (λ more. cond_both (new.id == row.id) _ _ IsAscending
    (λ same. let is = eqb-true new.id row.id same in (each_above new.id row.id rows (omega arith) ascends.0, ascends.1))
    (λ other.
    let ge = ltb-false new.id row.id more in let ne : new.id ≢ row.id = eqb-false new.id row.id other in
    (put_each (λ x. row.id < x.id) new rows (omega (arith, ne)) ascends.0, put_ascends new rows ascends.1)))

failed_ascends : (judged number : ℕ) (rows : List Row) → IsAscending rows →
    IsAscending (after_change (change.Failed judged number) rows)
failed_ascends judged number [] ascends = tt
failed_ascends judged number (row ∷ rows) ascends =
    let same : (cond (row.id == judged) (failed number row) row).id ≡ row.id =
    cond_both (row.id == judged) _ _ (λ (x : Row). x.id ≡ row.id) (λ _. refl) (λ _. refl) in (
      rw same (failed_each (λ x. row.id < x.id) judged number rows (λ x above. above) ascends.0),
      failed_ascends judged number rows ascends.1,
    )

gone_ascends : (gone : ℕ) (rows : List Row) → IsAscending rows → IsAscending (after_change (change.Gone gone) rows)
gone_ascends gone [] ascends = tt
gone_ascends gone (row ∷ rows) ascends =
    cond_both (not (row.id == gone)) _ _ IsAscending
    (λ _. (gone_each (λ x. row.id < x.id) gone rows ascends.0, gone_ascends gone rows ascends.1))
    (λ _. gone_ascends gone rows ascends.1)

pub change_ascends : (change : Change) (rows : List Row) → IsAscending rows → IsAscending (after_change change rows)
change_ascends (change.Up id peer) rows ascends = put_ascends (up id peer) rows ascends
change_ascends (change.Failed id number) rows ascends = failed_ascends id number rows ascends
change_ascends (change.Gone id) rows ascends = gone_ascends id rows ascends

changes_ascend : (rows : List Row) (changes : List Change) → IsAscending rows → IsAscending (rows_after rows changes)
changes_ascend rows [] ascends = ascends
changes_ascend rows (change ∷ changes) ascends =
    changes_ascend (after_change change rows) changes (change_ascends change rows ascends)

pub ascending_ascends : (rows : List Row) → IsAscending (ascending rows)
ascending_ascends [] = tt
ascending_ascends (row ∷ rows) = put_ascends row (ascending rows) (ascending_ascends rows)

-- the table's ids ascend
pub table_ascends : (o : Setting) (h : List Entry) → IsAscending (table o h)
table_ascends o h = changes_ascend (ascending o.rows) (changes o h) (ascending_ascends o.rows)

-- a row put makes one more at most, and none more where its id is among the others
pub put_length : (new : Row) (rows : List Row) → length (put new rows) ≤ length rows + 1
put_length new [] = omega arith
put_length new (row ∷ rows) =
    let again = put_length new rows in
    cond_both (nat_lt new.id row.id) _ _ (λ (x : List Row). length x ≤ length (row ∷ rows) + 1) (λ _. omega arith)
    (λ _. cond_both (new.id == row.id) _ _ (λ (x : List Row). length x ≤ length (row ∷ rows) + 1) (λ _. omega arith)
    (λ _. omega arith))

pub none_below : (id : ℕ) (rows : List Row) → AllByRecursion (λ row. id < row.id) rows → row_at rows id ≡ None
none_below id [] each = refl
none_below id (row ∷ rows) each = rw (ne_eqb row.id id (λ e. omega (arith, each.0))) (none_below id rows each.1)

pub put_length-known : (new : Row) (rows : List Row) → IsAscending rows → row_at rows new.id ≢ None →
    length (put new rows) ≡ length rows
put_length-known new [] ascends known = absurd (known refl)
put_length-known new (row ∷ rows) ascends known =
    cond_both (nat_lt new.id row.id) _ _ (λ (x : List Row). length x ≡ length (row ∷ rows))
    (λ less. let lt = ltb-true new.id row.id less in
    absurd (known (none_below new.id (row ∷ rows) (lt, each_above new.id row.id rows (omega arith) ascends.0))))
    (λ _. cond_both (new.id == row.id) _ _ (λ (x : List Row). length x ≡ length (row ∷ rows)) (λ _. refl)
    (λ other.
    let differs : row.id ≢ new.id = λ same. eqb-false new.id row.id other (sym same) in
    ap suc (put_length-known new rows ascends.1 (λ none. known (rw (ne_eqb row.id new.id differs) none)))))

pub failed_length : (judged number : ℕ) (rows : List Row) → length (after_change (change.Failed judged number) rows) ≡
    length rows
failed_length judged number [] = refl
failed_length judged number (row ∷ rows) = ap suc (failed_length judged number rows)

pub gone_length : (gone : ℕ) (rows : List Row) → length (after_change (change.Gone gone) rows) ≤ length rows
gone_length gone [] = omega arith
gone_length gone (row ∷ rows) =
    let again = gone_length gone rows in
    cond_both (not (row.id == gone)) _ _ (λ (x : List Row). length x ≤ length (row ∷ rows)) (λ _. omega arith)
    (λ _. omega arith)

pub ascending_length : (rows : List Row) → length (ascending rows) ≤ length rows
ascending_length [] = omega arith
ascending_length (row ∷ rows) = omega (arith, put_length row (ascending rows), ascending_length rows)

-- who joins is known already, or finds room
joined_length : (o : Setting) (h : List Entry) (id : ℕ) (peer : Address) →
    (row_of o h id ≡ None → known_count o h ≢ 128) → known_count o h ≤ 128 → length (put (up id peer) (table o h)) ≤ 128
joined_length o h id peer room bound = by (row_of o h id) refl
  where
    by : (row : Option Row) → row_of o h id ≡ row → length (put (up id peer) (table o h)) ≤ 128
    by None unknown = let free = room unknown in omega (arith, free, put_length (up id peer) (table o h))
    by (Some row) known =
        let listed : row_at (table o h) id ≢ None = λ none. absurd cc (table_shows o h id) in
        omega (arith, put_length-known (up id peer) (table o h) (table_ascends o h) listed)

entry_bound : (o : Setting) (h : List Entry) (call : Call) (reply : Reply) (choice : Choice) (number : ℕ) →
    Answers o h call reply choice → known_count o h ≤ 128 →
    length (rows_after (table o h) (option_to_list (change_by call reply number))) ≤ 128
entry_bound o h (Join id peer) (Joined place) Nothing number a bound = joined_length o h id peer a.2 bound
entry_bound o h (Join id peer) (Joined place) choice number a bound = absurd a
entry_bound o h (Remove id) Removed choice number a bound = omega (arith, gone_length id (table o h))
entry_bound o h Tick (Started (Some judged) probe) choice number a bound =
    omega (arith, failed_length judged number (table o h))
entry_bound o h call reply choice number a bound = bound

-- in a run the table has room for all
pub table_bound : (o : Setting) (h : List Entry) → IsSetting o → IsRun o h → length (table o h) ≤ 128
table_bound o [] s run = omega (arith, ascending_length o.rows, s.rows)
table_bound o (e ∷ h) s run =
    rw (table_next o h e)
    (entry_bound o h e.call e.reply e.choice (period_number o h) run.0.answer (table_bound o h s run.1))

-- the row that shows at an id has that id
row_at-id : (rows : List Row) (id : ℕ) (row : Row) → row_at rows id ≡ Some row → row.id ≡ id
row_at-id [] id row is = absurd cc
row_at-id (first ∷ rows) id row is = by (row_at-id rows id row) (first.id == id) refl is
  where
    by : (row_at rows id ≡ Some row → row.id ≡ id) → (b : Bool) → (first.id == id) ≡ b →
        cond b (Some first) (row_at rows id) ≡ Some row → row.id ≡ id
    by again true same is = ap (λ (x : Row). x.id) (sym (same_Some first row is)) ∙ eqb-true first.id id same
    by again false same is = again is

pub row_has_id : (o : Setting) (h : List Entry) (id : ℕ) (row : Row) → row_of o h id ≡ Some row → row.id ≡ id
row_has_id o h id row is = row_at-id (table o h) id row (table_shows o h id ∙ is)

-- a listed member is up at an address
up_row : (id : ℕ) (row : Option Row) → ((found : Row) → row ≡ Some found → found.id ≡ id) → is_up row ≡ true →
    (peer : Address) × (row ≡ Some (up id peer))
up_row id None same listed = absurd cc
up_row id (Some row) same listed = by row.state refl
  where
    by : (state : RowState) → row.state ≡ state → (peer : Address) × (Some row ≡ Some (up id peer))
    by state.Up is = (
      row.peer,
      ap (λ (s : RowState). Some (record { id = row.id; peer = row.peer; state = s })) is
          ∙ ap (λ (n : ℕ). Some (up n row.peer)) (same row refl),
    )
    by (state.Failed number) is = absurd cc

pub listed_row : (o : Setting) (h : List Entry) (id : ℕ) → is_listed o h id ≡ true → (peer : Address)
    × (row_of o h id ≡ Some (up id peer))
listed_row o h id listed = up_row id (row_of o h id) (row_has_id o h id) listed
