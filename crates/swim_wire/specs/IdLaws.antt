-- Laws of lists of ids: what stays so in another order, and in a part.
use Rattle.std.proofs.Common.{◌≡◌, ℕ, Bool, true, false, ◌&&◌, cond, nat_eq, List, [], ◌∷◌, refl, sym, ap, ◌∙◌}
use Rattle.std.proofs.lemmas.Bool.{or_parts, or_from, eqb-true}
use Rattle.std.proofs.lemmas.Cmp.{nat_eq_equiv}
use Rattle.std.proofs.lemmas.List.Sorted.{list_any-IsPermutation}
use Rattle.std.proofs.lemmas.Map.Keys.{IsDistinct-IsPermutation, IsDistinct-head, IsDistinct-tail, IsDistinct-cons}
use Rattle.std.proofs.lemmas.Map.Made.{is_member-filter}
use Rattle.std.specs.Prelude.{filter, IsPermutation}
use Rattle.std.specs.List.{AllByRecursion, IsDistinct}
use Rattle.swim_wire.specs.Ids.{has, has_twice}

-- ---- where no id stands twice, any two differ, and the other way round

none_same : (id : ℕ) (ids : List ℕ) → has ids id ≡ false → AllByRecursion (λ other. nat_eq id other ≡ false) ids
none_same id [] none = tt
none_same id (x ∷ ids) none =
    let parts = or_parts (nat_eq id x) (has ids id) none in (parts.0, none_same id ids parts.1)

has_none : (id : ℕ) (ids : List ℕ) → AllByRecursion (λ other. nat_eq id other ≡ false) ids → has ids id ≡ false
has_none id [] none = refl
has_none id (x ∷ ids) none = or_from (nat_eq id x) (has ids id) none.0 (has_none id ids none.1)

pub differ : (ids : List ℕ) → has_twice ids ≡ false → IsDistinct nat_eq ids
unfolding IsDistinct
differ [] once = tt
differ (id ∷ ids) once =
    let parts = or_parts (has ids id) (has_twice ids) once in
    IsDistinct-cons nat_eq id ids (none_same id ids parts.0) (differ ids parts.1)

once_from_differ : (ids : List ℕ) → IsDistinct nat_eq ids → has_twice ids ≡ false
once_from_differ [] d = refl
once_from_differ (id ∷ ids) d =
    or_from (has ids id) (has_twice ids) (has_none id ids (IsDistinct-head nat_eq id ids d))
    (once_from_differ ids (IsDistinct-tail nat_eq id ids d))

-- ---- another order

pub has-IsPermutation : (id : ℕ) (xs ys : List ℕ) → IsPermutation xs ys → has ys id ≡ has xs id
has-IsPermutation id xs ys p = sym (list_any-IsPermutation (nat_eq id) xs ys p)

pub once-IsPermutation : (xs ys : List ℕ) → IsPermutation xs ys → has_twice xs ≡ false → has_twice ys ≡ false
once-IsPermutation xs ys p once =
    once_from_differ ys (IsDistinct-IsPermutation nat_eq nat_eq_equiv.symm xs ys p (differ xs once))

-- ---- a part that is chosen by a test

pub has_part : (p : ℕ → Bool) (id : ℕ) (ids : List ℕ) → has (filter p ids) id ≡ (has ids id && p id)
has_part p id ids = is_member-filter nat_eq_equiv p id (λ x same. ap p (eqb-true id x same)) ids

pub once_part : (p : ℕ → Bool) (ids : List ℕ) → has_twice ids ≡ false → has_twice (filter p ids) ≡ false
once_part p [] once = refl
once_part p (id ∷ ids) once =
    let parts = or_parts (has ids id) (has_twice ids) once in
    by (p id) (has_part p id ids ∙ rw parts.0 refl) (once_part p ids parts.1)
  where
    by : (b : Bool) → has (filter p ids) id ≡ false → has_twice (filter p ids) ≡ false →
        has_twice (cond b (id ∷ filter p ids) (filter p ids)) ≡ false
    by true none again = or_from (has (filter p ids) id) (has_twice (filter p ids)) none again
    by false none again = again
