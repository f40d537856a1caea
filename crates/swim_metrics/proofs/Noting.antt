-- Hearings: what is shown of members after one more, or one less.
use Rattle.std.proofs.Common.{◌≡◌, ℕ, ◌==◌, not, Bool, true, false, ◌||◌, cond, nat_eq, List, [], ◌∷◌}
use Rattle.std.proofs.Common.{Option, Some, None, refl, ap, ◌∙◌, arith}
use Rattle.std.specs.Prelude.{find, is_some}
use Rattle.std.specs.Option.{option_map}
use Rattle.std.proofs.lemmas.Bool.{or_from, eq-eqb}
use Rattle.std.proofs.lemmas.Bool.Decides.{nat_tests}
use Rattle.std.proofs.lemmas.Cmp.{nat_eq_equiv}
use Rattle.swim_wire.specs.Ids.{has, has_twice, without}
use Rattle.swim_wire.specs.IdLaws.{once_part}
use Rattle.swim_metrics.specs.declared.hearings.LastHearing.{LastHearing}
use Rattle.swim_metrics.specs.LastHeard.{AreDifferent, forgotten, heard_at, members}

forgotten_shows_more : (id m : ℕ) (row : LastHearing) (rows : List LastHearing) →
    heard_at (forgotten id rows) m ≡ cond (id == m) None (heard_at rows m) →
    heard_at (forgotten id (row ∷ rows)) m ≡ cond (id == m) None (heard_at (row ∷ rows) m)
forgotten_shows_more id m row rows again = grind (arith, nat_tests)

none_either : (b : Bool) → None ≡ cond {A = Option ℕ} b None None
none_either true = refl
none_either false = refl

-- the others are shown as they were
pub forgotten_shows : (id m : ℕ) (rows : List LastHearing) →
    heard_at (forgotten id rows) m ≡ cond (id == m) None (heard_at rows m)
forgotten_shows id m [] = none_either (id == m)
forgotten_shows id m (row ∷ rows) = forgotten_shows_more id m row rows (forgotten_shows id m rows)

pub noted_shows : (id number m : ℕ) (rows : List LastHearing) →
    heard_at (record { member = id; number = number } ∷ forgotten id rows) m ≡
    cond (id == m) (Some number) (heard_at rows m)
noted_shows id number m rows = by (id == m) (forgotten_shows id m rows) where
  by : (b : Bool) → heard_at (forgotten id rows) m ≡ cond b None (heard_at rows m) →
      option_map (λ row. row.number)
      (cond b (Some (record { member = id; number = number })) (find (λ row. row.member == m) (forgotten id rows)))
      ≡ cond b (Some number) (heard_at rows m)
  by true rest = refl
  by false rest = rest

-- ---- members

members_forgotten : (id : ℕ) (rows : List LastHearing) → members (forgotten id rows) ≡ without id (members rows)
members_forgotten id [] = refl
members_forgotten id (row ∷ rows) = by (row.member == id) (members_forgotten id rows) where
  by : (b : Bool) → members (forgotten id rows) ≡ without id (members rows) →
      members (cond (not b) (row ∷ forgotten id rows) (forgotten id rows)) ≡
      cond (not b) (row.member ∷ without id (members rows)) (without id (members rows))
  by true again = again
  by false again = ap (λ ms. row.member ∷ ms) again

-- the members of hearings are those of whom something is shown
pub has_hearing : (rows : List LastHearing) (m : ℕ) → has (members rows) m ≡ is_some (heard_at rows m)
has_hearing [] m = refl
has_hearing (row ∷ rows) m = rw (nat_eq_equiv.symm m row.member) (by (nat_eq row.member m) (has_hearing rows m)) where
  by : (b : Bool) → has (members rows) m ≡ is_some (heard_at rows m) →
      (b || has (members rows) m) ≡
      is_some (option_map (λ (r : LastHearing). r.number) (cond b (Some row) (find (λ r. r.member == m) rows)))
  by true again = refl
  by false again = again

pub once_forgotten : (id : ℕ) (rows : List LastHearing) → AreDifferent rows → AreDifferent (forgotten id rows)
once_forgotten id rows once =
    rw (members_forgotten id rows) (once_part (λ other. not (other == id)) (members rows) once)

-- a member that is forgotten is none of the others
none_forgotten : (id : ℕ) (rows : List LastHearing) → has (members (forgotten id rows)) id ≡ false
none_forgotten id rows =
    has_hearing (forgotten id rows) id ∙
    ap is_some (forgotten_shows id id rows ∙ ap (λ b. cond b None (heard_at rows id)) (eq-eqb id id refl))

pub once_with : (id : ℕ) (rows : List LastHearing) → AreDifferent rows →
    has_twice (id ∷ members (forgotten id rows)) ≡ false
once_with id rows once =
    or_from (has (members (forgotten id rows)) id) (has_twice (members (forgotten id rows))) (none_forgotten id rows)
    (once_forgotten id rows once)
