-- What the looks of a viewer showed.
use Rattle.std.proofs.Common.{◌≡◌, ℕ, List, [], ◌∷◌, sym, subst, ◌∙◌, inl, inr}
use Rattle.std.specs.Prelude.{All}
use Rattle.std.proofs.lemmas.List.Elements.{All-nil, All-cons}
use mathlib.Core.List.{IsPrefix}
use Rattle.swim_history.specs.declared.rows.Change.{Change}
use Rattle.swim_history.specs.declared.rows.Row.{Row}
use Rattle.swim_history.specs.Changes.{IsAscending, ascending, after_change, rows_after, table_after}
use Rattle.swim_history.specs.Laws.Table.{ascending_ascends, change_ascends}
use Rattle.swim_history.specs.Setting.{Setting}
use Rattle.swim_rejoin.specs.Knocking.{Start, at_start}
use Rattle.swim_node.proofs.Prefixes.{begins_itself, begins_whole}
use Rattle.swim_ticker.specs.Knocking.{AreLooks, LooksOn}

-- what was seen at a look begins what was seen since
pub still_looks : (o : Setting) (saw seen : List Change) (looks : List Start) → IsPrefix saw seen →
    AreLooks o saw looks → AreLooks o seen looks
still_looks o saw seen [] later are = tt
still_looks o saw seen (start ∷ before) later are =
    (are.0, begins_whole are.0 saw seen are.1 later, are.2, are.3)

-- the table that was shown last, and what the looks until then showed
pub record AreShown (o : Setting) (seen : List Change) (table : List Row) (looks : List Start) : Type 0 where
  pub shown : List Change
  pub later : IsPrefix shown seen
  pub is : table ≡ table_after o shown
  pub each : AreLooks o shown looks

-- one look more
pub one_more_shown : (o : Setting) (saw seen : List Change) (was : List Row) (rejoin : ℕ) (rows : List Row)
    (looks : List Start) → IsPrefix saw seen → LooksOn o saw was seen rows → AreShown o saw was looks →
    AreShown o seen rows (at_start rejoin rows ∷ looks)
one_more_shown o saw seen was rejoin rows looks later (inl table) are = record {
  shown = seen;
  later = begins_itself seen;
  is = table;
  each = (
    seen,
    begins_itself seen,
    table,
    still_looks o are.shown seen looks (begins_whole are.shown saw seen are.later later) are.each,
  );
}
one_more_shown o saw seen was rejoin rows looks later (inr (same, unmoved)) are = record {
  shown = are.shown;
  later = begins_whole are.shown saw seen are.later later;
  is = same ∙ are.is;
  each = (are.shown, begins_itself are.shown, same ∙ are.is, are.each);
}

-- a table ascends, whatever changes it had
changed_ascends : (rows : List Row) (changes : List Change) → IsAscending rows → IsAscending (rows_after rows changes)
changed_ascends rows [] ascends = ascends
changed_ascends rows (change ∷ changes) ascends =
    changed_ascends (after_change change rows) changes (change_ascends change rows ascends)

look_ascends : (o : Setting) (seen : List Change) (rows : List Row) → rows ≡ table_after o seen → IsAscending rows
look_ascends o seen rows look =
    subst IsAscending (sym look) (changed_ascends (ascending o.rows) seen (ascending_ascends o.rows))

-- the rows of a start do
abbrev Ascends : Start → Type 0
Ascends start = IsAscending start.rows

pub looks_ascend : (o : Setting) (seen : List Change) (looks : List Start) → AreLooks o seen looks →
    All (λ start. IsAscending start.rows) looks
looks_ascend o seen [] are = All-nil Ascends
looks_ascend o seen (start ∷ before) are =
    All-cons Ascends start before (look_ascends o are.0 start.rows are.2) (looks_ascend o are.0 before are.3)
