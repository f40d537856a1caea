-- Within how many starts a listed member is probed: a measure of the lists of a round that each start lowers.
use Rattle.std.proofs.Common.{◌≡◌, ℕ, zero, suc, ◌+◌, ◌-◌, ◌*◌, ◌≤◌, Bool, true, false, ◌||◌, not, cond, nat_lt, nat_eq}
use Rattle.std.proofs.Common.{if◌then◌else◌, List, [], ◌∷◌, ◌++◌, length, Option, Some, None, refl, sym, ◌∙◌, arith}
use Rattle.std.proofs.Common.{length-append, append_assoc, append-nil}
use Rattle.std.proofs.Math.Bool.{and-true}
use Rattle.std.proofs.lemmas.Bool.{false≢true, eqb-true}
use Rattle.std.proofs.lemmas.Cmp.{nat_eq_equiv}
use Rattle.std.proofs.lemmas.List.Filters.{length-filter_both}
use Rattle.std.proofs.lemmas.List.Folds.{list_any-append}
use Rattle.std.proofs.lemmas.List.Sorted.{length_permutation, IsPermutation-insert}
use Rattle.std.specs.Prelude.{filter, insert}
use Rattle.swim_wire.specs.Ids.{has, without, front}
use Rattle.swim_wire.specs.IdLaws.{has_part, has-IsPermutation}
use Rattle.swim_wire.specs.Round.{Lists, all_of, leave, leave_judged, MayDraw, redraw, advanced, advance, join_at}
use Rattle.swim_history.specs.Gap.{is_member}
use Rattle.swim_history.specs.Laws.Listed.{all-leave, all-redraw}

-- the place of an id on a list, counted from 1
abbrev pub place_of : ℕ → List ℕ → ℕ
place_of m [] = 0
place_of m (id ∷ ids) = if nat_eq m id then 1 else place_of m ids + 1

-- within so many starts a listed member is probed, if nobody joins: its place among those to be probed, or, where it
-- was probed in this round, as many as are to be probed, and then as many as are listed
abbrev pub until_probed : ℕ → Lists → ℕ
until_probed m r = if has r.rest m then place_of m r.rest else length r.rest + length (all_of r)

-- ---- places on lists

place_bound : (m : ℕ) (ids : List ℕ) → has ids m ≡ true → (1 ≤ place_of m ids) × (place_of m ids ≤ length ids)
place_bound m [] is = absurd (false≢true is)
place_bound m (id ∷ ids) is = by (place_bound m ids) (nat_eq m id) is
  where
    by : (has ids m ≡ true → (1 ≤ place_of m ids) × (place_of m ids ≤ length ids)) → (b : Bool) →
        (b || has ids m) ≡ true
        → (1 ≤ cond b 1 (place_of m ids + 1)) × (cond b 1 (place_of m ids + 1) ≤ length (id ∷ ids))
    by again true is = (omega arith, omega arith)
    by again false is = let bound = again is in (omega arith, omega (arith, bound.1))

place-without : (m x : ℕ) (ids : List ℕ) → nat_eq m x ≡ false → place_of m (without x ids) ≤ place_of m ids
place-without m x [] other = omega arith
place-without m x (id ∷ ids) other = by (nat_eq id x) refl (place-without m x ids other)
  where
    at : (b : Bool) → place_of m (without x ids) ≤ place_of m ids → cond b 1 (place_of m (without x ids) + 1) ≤ cond b 1
        (place_of m ids + 1)
    at true again = omega arith
    at false again = omega arith

    by : (b : Bool) → nat_eq id x ≡ b → place_of m (without x ids) ≤ place_of m ids →
        place_of m (cond (not b) (id ∷ without x ids) (without x ids)) ≤ place_of m (id ∷ ids)
    by true same again = rw (eqb-true id x same, other) (omega arith)
    by false same again = at (nat_eq m id) again

pub length-filter-le : {X : Type 0} (test : X → Bool) (xs : List X) → length (filter test xs) ≤ length xs
length-filter-le test xs = omega (arith, length-filter_both test (λ x. not (test x)) (λ x. refl) xs)

length-without : (x : ℕ) (ids : List ℕ) → length (without x ids) ≤ length ids
length-without x ids = length-filter-le (λ id. not (nat_eq id x)) ids

has-without : (m x : ℕ) (ids : List ℕ) → nat_eq m x ≡ false → has (without x ids) m ≡ has ids m
has-without m x ids other = has_part (λ id. not (nat_eq id x)) m ids ∙ rw other (and-true (has ids m))

place-insert : (m x : ℕ) (ids : List ℕ) (k : ℕ) → nat_eq m x ≡ false → place_of m (insert ids k x) ≤ place_of m ids + 1
place-insert m x ids zero other = rw other (omega arith)
place-insert m x [] (suc k) other = rw other (omega arith)
place-insert m x (id ∷ ids) (suc k) other = by (nat_eq m id) (place-insert m x ids k other)
  where
    by : (b : Bool) → place_of m (insert ids k x) ≤ place_of m ids + 1 →
        cond b 1 (place_of m (insert ids k x) + 1) ≤ cond b 1 (place_of m ids + 1) + 1
    by true again = omega arith
    by false again = omega arith

has-insert : (m x : ℕ) (ids : List ℕ) (k : ℕ) → nat_eq m x ≡ false → has (insert ids k x) m ≡ has ids m
has-insert m x ids k other =
    has-IsPermutation m (x ∷ ids) (insert ids k x) (IsPermutation-insert ids k x) ∙ rw other refl

length-insert : (x : ℕ) (ids : List ℕ) (k : ℕ) → length (insert ids k x) ≡ length ids + 1
length-insert x ids k = length_permutation (x ∷ ids) (insert ids k x) (IsPermutation-insert ids k x) ∙ omega arith

-- ---- what an entry does to the starts until a listed member is probed

-- another member leaves
pub until_probed-leave : (m x : ℕ) (r : Lists) → nat_eq m x ≡ false → until_probed m (leave x r) ≤ until_probed m r
until_probed-leave m x r other = rw (has-without m x r.rest other) (by (has r.rest m))
  where
    by : (b : Bool) → cond b (place_of m (without x r.rest))
        (length (without x r.rest) + length (without x r.probed ++ without x r.rest)) ≤ cond b (place_of m r.rest)
        (length r.rest + length (r.probed ++ r.rest))
    by true = place-without m x r.rest other
    by false =
        omega (
          arith,
          length-without x r.probed,
          length-without x r.rest,
          length-append r.probed r.rest,
          length-append
              (without x r.probed) (without x r.rest),
        )

other_way : (m x : ℕ) → nat_eq x m ≡ false → nat_eq m x ≡ false
other_way m x other = nat_eq_equiv.symm m x ∙ other

until_probed-judged : (m : ℕ) (judged : Option ℕ) (r : Lists) → is_member m judged ≡ false →
    until_probed m (leave_judged judged r) ≤ until_probed m r
until_probed-judged m None r other = omega arith
until_probed-judged m (Some x) r other = until_probed-leave m x r (other_way m x other)

stays_listed : (m : ℕ) (judged : Option ℕ) (r : Lists) → is_member m judged ≡ false →
    has (all_of (leave_judged judged r)) m ≡ has (all_of r) m
stays_listed m None r other = refl
stays_listed m (Some x) r other = rw (all-leave x r) (has-without m x (all_of r) (other_way m x other))

-- a round begins, in an order of those probed
until_probed-redraw : (m : ℕ) (order : Option (List ℕ)) (r : Lists) → MayDraw order r → has (all_of r) m ≡ true →
    until_probed m (redraw order r) ≤ until_probed m r
until_probed-redraw m None r may listed = omega arith
until_probed-redraw m (Some order) r may listed =
    let probed : has r.probed m ≡ true = rw (may.0, append-nil r.probed) at listed in
    let next : has order m ≡ true = has-IsPermutation m r.probed order may.2 ∙ probed in
    rw (next, may.0, append-nil r.probed)
    (omega (arith, place_bound m order next, length_permutation r.probed order may.2))

-- another member is probed
until_probed-advanced : (m : ℕ) (probed rest : List ℕ) → (rest ≡ [] → probed ≡ []) → has (probed ++ rest) m ≡ true →
    is_member m (front rest) ≡ false
    → until_probed m (advanced probed rest) + 1 ≤ until_probed m (record { probed = probed; rest = rest })
until_probed-advanced m probed [] empty listed other = absurd (false≢true (rw (empty refl) at listed))
until_probed-advanced m probed (id ∷ rest) empty listed other =
    rw (other_way m id other, append_assoc probed (id ∷ []) rest) (by (has rest m))
  where
    by : (b : Bool) → cond b (place_of m rest) (length rest + length (probed ++ id ∷ rest)) + 1 ≤ cond b
        (place_of m rest + 1) (length (id ∷ rest) + length (probed ++ id ∷ rest))
    by true = omega arith
    by false = omega arith

-- who is to be probed after a draw, if anybody is listed
drawn_empty : (order : Option (List ℕ)) (r : Lists) → MayDraw order r → (redraw order r).rest ≡ [] →
    (redraw order r).probed ≡ []
drawn_empty None r may = may
drawn_empty (Some order) r may = λ e. refl

-- a start that neither judges nor probes the member brings it nearer
pub until_probed-start : (m : ℕ) (judged : Option ℕ) (order : Option (List ℕ)) (r : Lists) →
    MayDraw order (leave_judged judged r) → has (all_of r) m ≡ true → is_member m judged ≡ false
    → is_member m (front (redraw order (leave_judged judged r)).rest) ≡ false →
    until_probed m (advance (redraw order (leave_judged judged r))) + 1 ≤ until_probed m r
until_probed-start m judged order r may listed spared other =
    let stays = leave_judged judged r in
    let drawn = redraw order stays in
    let still : has (all_of stays) m ≡ true = stays_listed m judged r spared ∙ listed in
    let again : has (all_of drawn) m ≡ true =
    has-IsPermutation m (all_of stays) (all_of drawn) (all-redraw order stays may) ∙ still in
    omega (
      arith,
      until_probed-judged m judged r spared,
      until_probed-redraw m order stays may still,
      until_probed-advanced m drawn.probed drawn.rest (drawn_empty order stays may) again other,
    )

-- another member joins
pub until_probed-join : (m x place : ℕ) (r : Lists) → nat_eq m x ≡ false →
    until_probed m (join_at x place r) ≤ until_probed m r + 2
until_probed-join m x place r other = by (nat_lt place (length r.probed))
  where
    among_probed : (b : Bool) →
        cond b (place_of m r.rest) (length r.rest + length (insert r.probed place x ++ r.rest)) ≤ cond b
        (place_of m r.rest) (length r.rest + length (r.probed ++ r.rest)) + 2
    among_probed true = omega arith
    among_probed false =
        omega (
          arith,
          length-append (insert r.probed place x) r.rest,
          length-append r.probed r.rest,
          length-insert x r.probed place,
        )

    among_rest : (k : ℕ) (b : Bool) → cond b (place_of m (insert r.rest k x))
        (length (insert r.rest k x) + length (r.probed ++ insert r.rest k x)) ≤ cond b (place_of m r.rest)
        (length r.rest + length (r.probed ++ r.rest)) + 2
    among_rest k true = omega (arith, place-insert m x r.rest k other)
    among_rest k false =
        omega (
          arith,
          length-append r.probed (insert r.rest k x),
          length-append r.probed r.rest,
          length-insert x r.rest k,
        )

    by : (b : Bool) →
        until_probed m
        (cond b (record { probed = insert r.probed place x; rest = r.rest })
        (record { probed = r.probed; rest = insert r.rest (place - length r.probed) x })) ≤ until_probed m r + 2
    by true = among_probed (has r.rest m)
    by false =
        rw (has-insert m x r.rest (place - length r.probed) other) (among_rest (place - length r.probed) (has r.rest m))

-- ---- bounds

or_first : (x y : Bool) → (x || y) ≡ true → y ≡ false → x ≡ true
or_first true y either other = refl
or_first false y either other = absurd (false≢true (sym other ∙ either))

pub until_probed_bound : (m : ℕ) (r : Lists) → has (all_of r) m ≡ true → (1 ≤ until_probed m r)
    × (until_probed m r ≤ 2 * length (all_of r) - 1)
until_probed_bound m r listed = by (has r.rest m) refl
  where
    by : (b : Bool) → has r.rest m ≡ b → (1 ≤ cond b (place_of m r.rest) (length r.rest + length (all_of r)))
        × (cond b (place_of m r.rest) (length r.rest + length (all_of r)) ≤ 2 * length (all_of r) - 1)
    by true is =
        let bound = place_bound m r.rest is in (bound.0, omega (arith, bound.0, bound.1, length-append r.probed r.rest))
    by false is =
        let probed : has r.probed m ≡ true =
        or_first (has r.probed m) (has r.rest m) (sym (list_any-append (nat_eq m) r.probed r.rest) ∙ listed) is in
        let bound = place_bound m r.probed probed in (
          omega (arith, bound.0, bound.1, length-append r.probed r.rest),
          omega
              (arith, bound.0, bound.1, length-append r.probed r.rest),
        )
