-- What is kept after a knock, and after a join, is what the longer history comes to.
use Rattle.std.proofs.Common.{◌≡◌, ℕ, Bool, true, false, cond, nat_eq, List, ◌∷◌, length, get_or, set, Option, Some}
use Rattle.std.proofs.Common.{None, refl, sym, ap, ◌∙◌, subst}
use Rattle.std.specs.List.{position, refill}
use Rattle.std.specs.Option.{option_map}
use Rattle.swim_history.specs.Rows.{row_at}
use Rattle.swim_history.specs.declared.rows.Row.{Row}
use Rattle.swim_rejoin.specs.Histories.{Event, knocks_at, last_joined, table_in}
use Rattle.swim_rejoin.specs.Histories.Event.{Joined, Knocked}
use Rattle.swim_rejoin.specs.Knowing.{after_join, after_knock, known_as, known_at, known_by, padded}
use Rattle.swim_rejoin.specs.Rejoiners.{Follows, Kept}
use Rattle.swim_rejoin.specs.declared.known.Known.{Known}
use Rattle.swim_rejoin.proofs.Finding.{find-at_none, find-at_position, known_at-set, row_id, same_number, written}
use Rattle.swim_rejoin.proofs.Padding.{padded-push}

-- what is kept of one member is changed
abbrev pub changed : ℕ → (Known → Known) → ℕ → Option Known → Option Known
changed id change other known = cond (nat_eq id other) (option_map change known) known

unchanged : (b : Bool) (change : Known → Known) → cond b (option_map change None) None ≡ None
unchanged true change = refl
unchanged false change = refl

known_by-knocked : (h : List Event) (id number other : ℕ) →
    known_by (Knocked id number ∷ h) other ≡ changed id (after_knock number) other (known_by h other)
known_by-knocked h id number other = by_row (row_at (table_in h) other) refl where
  by_test : (row : Row) (b : Bool) →
      Some (record (known_as h row)
      { knocks = record { numbers = padded 64 (cond b (number ∷ knocks_at row.id h) (knocks_at row.id h)) } })
      ≡ cond b (Some (after_knock number (known_as h row))) (Some (known_as h row))
  by_test row true = ap (λ (numbers : List ℕ). Some (record (known_as h row) { knocks = record { numbers = numbers } }))
      (sym (padded-push number (knocks_at row.id h)))
  by_test row false = refl

  by_row : (o : Option Row) → row_at (table_in h) other ≡ o →
      option_map (known_as (Knocked id number ∷ h)) o ≡
      changed id (after_knock number) other (option_map (known_as h) o)
  by_row None e = sym (unchanged (nat_eq id other) (after_knock number))
  by_row (Some row) e =
      let P : ℕ → Type 0 = λ o. Some (known_as (Knocked id number ∷ h) row) ≡
      changed id (after_knock number) o (Some (known_as h row)) in
      subst P (row_id (table_in h) other row e) (by_test row (nat_eq id row.id))

known_by-joined : (h : List Event) (id period other : ℕ) →
    known_by (Joined id period ∷ h) other ≡ changed id (after_join period) other (known_by h other)
known_by-joined h id period other = by_row (row_at (table_in h) other) refl where
  by_test : (row : Row) (b : Bool) →
      Some (record (known_as h row) { joined = cond b (Some period) (last_joined row.id h) }) ≡
      cond b (Some (after_join period (known_as h row))) (Some (known_as h row))
  by_test row true = refl
  by_test row false = refl

  by_row : (o : Option Row) → row_at (table_in h) other ≡ o →
      option_map (known_as (Joined id period ∷ h)) o ≡ changed id (after_join period) other (option_map (known_as h) o)
  by_row None e = sym (unchanged (nat_eq id other) (after_join period))
  by_row (Some row) e =
      let P : ℕ → Type 0 = λ o. Some (known_as (Joined id period ∷ h) row) ≡
      changed id (after_join period) o (Some (known_as h row)) in
      subst P (row_id (table_in h) other row e) (by_test row (nat_eq id row.id))

-- these are kept after one was changed
abbrev pub AreChanged : ℕ → (Known → Known) → List Known → List Known → Type 0
AreChanged id change old new = (other : ℕ) → known_at new other ≡ changed id change other (known_at old other)

pub Follows-knocked : (k : Kept) (h : List Event) (id number : ℕ) (knowns : List Known) →
    AreChanged id (after_knock number) k.knowns knowns → Follows k h →
    Follows (record k { knowns = knowns }) (Knocked id number ∷ h)
Follows-knocked k h id number knowns are f = record {
  ruled = f.ruled;
  known = λ other. are other ∙ ap (changed id (after_knock number) other) (f.known other) ∙
      sym (known_by-knocked h id number other);
  marked = f.marked;
}

pub Follows-joined : (k : Kept) (h : List Event) (id period : ℕ) (knowns : List Known) →
    AreChanged id (after_join period) k.knowns knowns → Follows k h →
    Follows (record k { knowns = knowns }) (Joined id period ∷ h)
Follows-joined k h id period knowns are f = record {
  ruled = f.ruled;
  known = λ other. are other ∙ ap (changed id (after_join period) other) (f.known other) ∙
      sym (known_by-joined h id period other);
  marked = f.marked;
}

-- the one that stands at its place is changed
pub changed_at : (knowns : List Known) (id place : ℕ) (change : Known → Known) (old : Known) →
    ((k : Known) → (change k).row ≡ k.row) →
    position (λ (k : Known). nat_eq k.row.id id) knowns ≡ Some place → old ≡ get_or knowns place old →
    AreChanged id change knowns (set knowns place (change old))
changed_at knowns id place change old keeps stands read other =
    known_at-set knowns id place old (change old) stands read (keeps old) other ∙ by_test (nat_eq id other) refl where
      by_test : (b : Bool) → nat_eq id other ≡ b →
          cond b (Some (change old)) (known_at knowns other) ≡
          cond b (option_map change (known_at knowns other)) (known_at knowns other)
      by_test true e =
          sym (ap (option_map change)
          (ap (known_at knowns) (sym (same_number id other e)) ∙
          find-at_position (λ (k : Known). nat_eq k.row.id id) knowns place old stands read))
      by_test false e = refl

-- none is changed where that one isn't kept
pub none_changed : (knowns : List Known) (id : ℕ) (change : Known → Known) →
    position (λ (k : Known). nat_eq k.row.id id) knowns ≡ None → AreChanged id change knowns knowns
none_changed knowns id change stands other = by_test (nat_eq id other) refl where
  by_test : (b : Bool) → nat_eq id other ≡ b →
      known_at knowns other ≡ cond b (option_map change (known_at knowns other)) (known_at knowns other)
  by_test true e =
      let none : known_at knowns other ≡ None = ap (known_at knowns) (sym (same_number id other e)) ∙
      find-at_none (λ (k : Known). nat_eq k.row.id id) knowns stands in
      none ∙ sym (ap (option_map change) none)
  by_test false e = refl

-- the list as it is written over
pub written_over : (knowns read : List Known) (place : ℕ) (change : Known → Known) (old new : Known) → read ≡ knowns →
    old ≡ get_or read place old →
    new ≡ change (get_or read place old) →
    refill (length knowns) knowns (set read place new) ≡ set knowns place (change old)
written_over knowns read place change old new same is made =
    ap (λ (xs : List Known). refill (length knowns) knowns (set xs place new)) same
    ∙ ap (λ (y : Known). refill (length knowns) knowns (set knowns place y)) (made ∙ ap change (sym is))
    ∙ written knowns place (change old)
