-- What is kept after the table was looked at is what the longer history comes to.
use Rattle.std.proofs.Common.{◌≡◌, ℕ, Bool, true, false, cond, nat_eq, List, [], ◌∷◌, map, Option, Some, None, refl}
use Rattle.std.proofs.Common.{sym, ap, ◌∙◌}
use Rattle.std.specs.Option.{is_some, option_and_then, option_map, option_or}
use Rattle.swim_history.specs.Rows.{row_at}
use Rattle.swim_history.specs.declared.rows.Row.{Row}
use Rattle.swim_rejoin.specs.Failed.{verdict_in, verdict_of}
use Rattle.swim_rejoin.specs.Histories.{Event, knocks_at, last_joined, last_verdict, table_in, times}
use Rattle.swim_rejoin.specs.Histories.Event.{Looked}
use Rattle.swim_rejoin.specs.Knowing.{first_known, known_as, known_at, known_by, known_now, known_once_looked, padded}
use Rattle.swim_rejoin.specs.Rejoiners.{AreMarked, Follows, Kept}
use Rattle.swim_rejoin.specs.Waits.{times_once_judged}
use Rattle.swim_rejoin.specs.declared.known.Known.{Known}
use Rattle.swim_rejoin.proofs.Finding.{find-map, row_id}
use Rattle.swim_rejoin.proofs.Padding.{padded-none}

-- what the history comes to for a member with that row and that id, by whether the table before knew it, and by its
-- verdict
abbrev made : List Event → Row → ℕ → Bool → Option ℕ → Known
made h row id was verdict = record {
  row = row;
  knocks = record { numbers = padded 64 (cond was (knocks_at id h) []) };
  joined = cond was (last_joined id h) None;
  shown = option_or verdict (cond was (last_verdict id h) None);
  times = cond was (times_once_judged (times id h) (last_joined id h) (last_verdict id h) verdict) 1;
}

none_behind : {A : Type 0} (o : Option A) → option_or o None ≡ o
none_behind None = refl
none_behind (Some x) = refl

-- a member that wasn't known
made_first : (h : List Event) (row : Row) (verdict : Option ℕ) → verdict ≡ verdict_of row.state →
    made h row row.id false verdict ≡ first_known row
made_first h row verdict e =
    ap (λ (shown : Option ℕ). record (made h row row.id false verdict) { shown = shown }) (none_behind verdict ∙ e)
    ∙ ap (λ (numbers : List ℕ). record (first_known row) { knocks = record { numbers = numbers } }) (padded-none 64)

-- what is kept of a member of the table
known_of : (h : List Event) (rows : List Row) (row : Row) → verdict_in rows row.id ≡ verdict_of row.state →
    known_now row (option_map (known_as h) (row_at (table_in h) row.id)) ≡ known_as (Looked rows ∷ h) row
known_of h rows row verdict = by_row (row_at (table_in h) row.id) refl where
  by_row : (o : Option Row) → row_at (table_in h) row.id ≡ o →
      known_now row (option_map (known_as h) o) ≡ known_as (Looked rows ∷ h) row
  by_row None e =
      sym (made_first h row (verdict_in rows row.id) verdict)
      ∙ ap (λ was. made h row row.id was (verdict_in rows row.id)) (sym (ap is_some e))
  by_row (Some old) e =
      ap (λ id. made h row id true (verdict_of row.state)) (row_id (table_in h) row.id old e)
      ∙ ap (made h row row.id true) (sym verdict)
      ∙ ap (λ was. made h row row.id was (verdict_in rows row.id)) (sym (ap is_some e))

pub known_by-looked : (knowns : List Known) (h : List Event) (rows : List Row) →
    ((id : ℕ) → known_at knowns id ≡ known_by h id) → (id : ℕ) →
    known_at (map (known_once_looked knowns) rows) id ≡ known_by (Looked rows ∷ h) id
known_by-looked knowns h rows are id =
    find-map (λ (k : Known). nat_eq k.row.id id) (λ (r : Row). nat_eq r.id id) (known_once_looked knowns) keeps rows ∙
    by_row (row_at rows id) refl where
      keeps_row : (row : Row) (o : Option Known) → (known_now row o).row ≡ row
      keeps_row row None = refl
      keeps_row row (Some known) = refl

      keeps : (row : Row) → nat_eq (known_once_looked knowns row).row.id id ≡ nat_eq row.id id
      keeps row = ap (λ (r : Row). nat_eq r.id id) (keeps_row row (known_at knowns row.id))

      by_row : (o : Option Row) → row_at rows id ≡ o →
          option_map (known_once_looked knowns) o ≡ option_map (known_as (Looked rows ∷ h)) o
      by_row None e = refl
      by_row (Some row) e =
          let found : row_at rows row.id ≡ Some row = ap (row_at rows) (row_id rows id row e) ∙ e in
          ap Some (ap (known_now row) (are row.id) ∙
          known_of h rows row (ap (option_and_then (λ (r : Row). verdict_of r.state)) found))

pub Follows-looked : (k : Kept) (h : List Event) (rows : List Row) (marks : List Bool) (knowns : List Known) →
    AreMarked rows marks →
    knowns ≡ map (known_once_looked k.knowns) rows → Follows k h →
    Follows (record k { knowns = knowns; marks = marks }) (Looked rows ∷ h)
Follows-looked k h rows marks knowns marked are f = record {
  ruled = f.ruled;
  known = λ id. ap (λ (ks : List Known). known_at ks id) are ∙ known_by-looked k.knowns h rows f.known id;
  marked = marked;
}
