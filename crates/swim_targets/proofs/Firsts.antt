-- The first place of an id.
use Rattle.std.specs.Prelude.{◌≡◌, ℕ, ◌+◌, ◌<◌, drop, true, false, List, [], ◌∷◌, length, take, remove, zero, suc}
use Rattle.std.proofs.Common.{eqb, refl, sym, ap, arith, get_or}
use Rattle.std.proofs.lemmas.Bool.{or_parts, eq-eqb, ne_eqb, both_ways}
use Rattle.std.proofs.lemmas.List.Folds.{list_any_at}
use Rattle.std.proofs.lemmas.List.{drop_more}
use Rattle.swim_wire.specs.Ids.{has}
use Rattle.swim_targets.specs.Places.{IsFirstAt}
use Rattle.swim_targets.specs.Script.{less_one, is_order_of}

-- what has a first place is on the list
pub is_listed : (ids : List ℕ) (id i : ℕ) → IsFirstAt ids id i → has ids id ≡ true
is_listed ids id i at = list_any_at (eqb id) ids i 0 at.listed (eq-eqb id (get_or ids i 0) (sym at.here))

-- the element at the first place is the one that is taken out
pub remove_first : (ids : List ℕ) (id i : ℕ) → IsFirstAt ids id i → remove ids i ≡ less_one id ids
remove_first [] id i at = absurd (omega (arith, at.listed))
remove_first (x ∷ ids) id zero at = rw (eq-eqb x id at.here) refl
remove_first (x ∷ ids) id (suc i) at =
    let parts = or_parts (eqb id x) (has (take i ids) id) at.first in
    let other : eqb x id ≡ false = ne_eqb x id (λ same. both_ways (eqb id x) parts.0 (eq-eqb id x (sym same))) in
    let later : IsFirstAt ids id i = record { listed = omega (arith, at.listed); here = at.here; first = parts.1 } in
    rw other (ap (λ xs. x ∷ xs) (remove_first ids id i later))

-- the next id is taken out of what is left of the order
pub taken_out : (ids left : List ℕ) (i place id : ℕ) → i < length ids → id ≡ get_or ids i id → IsFirstAt left id place
    → is_order_of (drop i ids) left ≡ is_order_of (drop (i + 1) ids) (remove left place)
taken_out ids left i place id lt here at =
    let listed = is_listed left id place at in
    rw (drop_more ids i id lt, ← here, listed, remove_first left id place at) refl
