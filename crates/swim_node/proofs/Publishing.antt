-- What is shown after a publication.
use Rattle.std.proofs.Common.{◌≡◌, ◌≤◌, List, [], ◌∷◌, ◌++◌, length, fold, Some, Result, Ok, Err, IsOk, sym, ap, ◌∙◌}
use Rattle.std.specs.Prelude.{MatchResult}
use Rattle.std.proofs.lemmas.Bool.{le-leb}
use Rattle.logbook.specs.Pages.{Book}
use Rattle.swim_history.specs.declared.rows.Change.{Change}
use Rattle.swim_history.specs.Setting.{Setting}
use Rattle.swim_history.specs.Changes.{ascending, after_change, table_after}
use Rattle.swim_history.specs.Changing.{changed_within}
use Rattle.swim_history.specs.Laws.Table.{rows_after-append}
use Rattle.swim_node.specs.declared.shown.Update.{Update}
use Rattle.swim_node.specs.Shown.{Showing, shown_after, showing}

-- a change that finds room is made
rows_with : (o : Setting) (log : List Change) (change : Change) → length (table_after o (log ++ change ∷ [])) ≤ 128 →
    changed_within change (table_after o log) ≡ table_after o (log ++ change ∷ [])
rows_with o log change fits =
    let more : table_after o (log ++ change ∷ []) ≡ after_change change (table_after o log) =
    rows_after-append (ascending o.rows) log (change ∷ []) in
    let room : length (after_change change (table_after o log)) ≤ 128 = rw more at fits in
    rw (le-leb (length (after_change change (table_after o log))) 128 room) (sym more)

-- the update of a change
abbrev pub update_of : Book → List Change → Change → Update
update_of book log change =
    record { change = Some change; shown = record { book = book; changes = log ++ change ∷ [] } }

-- after it, the table is shown with the change
pub published : (o : Setting) (book : Book) (log : List Change) (change : Change) (shown next : Showing)
    (updates : List Update) → shown ≡ showing o book log → updates ≡ update_of book log change ∷ []
    → length (table_after o (log ++ change ∷ [])) ≤ 128 →
    next ≡ fold (λ s update. shown_after s update.change update.shown) shown updates →
    next ≡ showing o book (log ++ change ∷ [])
published o book log change shown next updates is_shown are_updates fits is_next =
    is_next ∙ rw (are_updates, is_shown)
    (ap (λ rows. record { rows = rows; shown = record { book = book; changes = log ++ change ∷ [] } })
    (rows_with o log change fits))

-- what a result says where it is `Ok`
pub of_ok : {A E : Type 0} (P Q : Type 0) (r : Result A E) → IsOk r → MatchResult r (λ _. P) (λ _. Q) → P
of_ok P Q (Ok x) ok says = says
of_ok P Q (Err e) ok says = absurd (cc ok)
