-- The first element that passes a test: where it stands, after a write, and in a list made by a function.
use Rattle.std.proofs.Common.{◌≡◌, ℕ, ◌<◌, ◌≤◌, Bool, true, false, cond, nat_eq, nat_lt, List, [], ◌∷◌, ◌++◌, length}
use Rattle.std.proofs.Common.{get_or, set, map, take, take_all, append-nil, drop_of_length-le, Some, None, refl, sym}
use Rattle.std.proofs.Common.{ap, ◌∙◌, subst, arith}
use Rattle.std.specs.List.{find, position, position_or_len, refill, slice_get}
use Rattle.std.specs.Option.{option_map}
use Rattle.std.proofs.Math.ListN.{length-set}
use Rattle.std.proofs.lemmas.Bool.{ltb-true}
use Rattle.std.proofs.lemmas.Bool.Decides.{Decides-eqb}
use Rattle.std.proofs.lemmas.List.Folds.{find_at, find-set, find_past}
use Rattle.std.proofs.lemmas.Option.{cond_some, slice_get_read, slice_get_past}
use Rattle.swim_history.specs.Rows.{row_at}
use Rattle.swim_history.specs.declared.rows.Row.{Row}
use Rattle.swim_rejoin.specs.Knowing.{known_at}
use Rattle.swim_rejoin.specs.declared.known.Known.{Known}

pub same_number : (a b : ℕ) → nat_eq a b ≡ true → a ≡ b
same_number a b e = (Decides-eqb a b).0 e

pub same_self : (a : ℕ) → nat_eq a a ≡ true
same_self a = (Decides-eqb a a).1 refl

-- where the first stands
at_first : {X : Type 0} (p : X → Bool) (xs : List X) (place : ℕ) → position p xs ≡ Some place →
    (place ≡ position_or_len p xs) × (place < length xs)
at_first p xs place h =
    let found = cond_some (nat_lt (position_or_len p xs) (length xs)) (position_or_len p xs) place h in
    let P : ℕ → Type 0 = λ n. n < length xs in
    (sym found.1, subst P found.1 (ltb-true (position_or_len p xs) (length xs) found.0))

pub find-at_position : {X : Type 0} (p : X → Bool) (xs : List X) (place : ℕ) (x : X) → position p xs ≡ Some place →
    x ≡ get_or xs place x → find p xs ≡ Some x
find-at_position p xs place x h read =
    let at = at_first p xs place h in
    find_at p xs ∙ ap (slice_get xs) (sym at.0) ∙ slice_get_read xs (length xs) place x refl at.1 read

cond_none : {A : Type 0} (b : Bool) (x : A) → cond b (Some x) None ≡ None → b ≡ false
cond_none true x h = cc
cond_none false x h = refl

pub not_below : (a b : ℕ) → nat_lt a b ≡ false → b ≤ a
not_below a b e = grind arith

pub find-at_none : {X : Type 0} (p : X → Bool) (xs : List X) → position p xs ≡ None → find p xs ≡ None
find-at_none p xs h =
    find_at p xs
    ∙ slice_get_past xs (position_or_len p xs)
    (not_below (position_or_len p xs) (length xs)
    (cond_none (nat_lt (position_or_len p xs) (length xs)) (position_or_len p xs) h))

pub some_is : {A : Type 0} (a b : A) → Some a ≡ Some b → a ≡ b
some_is a b e = cc

-- what is found passes
pub found_passes : {X : Type 0} (p : X → Bool) (xs : List X) (x : X) → find p xs ≡ Some x → p x ≡ true
found_passes p [] x h = cc
found_passes p (y ∷ xs) x h = by_test (p y) refl h (found_passes p xs x) where
  by_test : (b : Bool) → p y ≡ b → cond b (Some y) (find p xs) ≡ Some x → (find p xs ≡ Some x → p x ≡ true) → p x ≡ true
  by_test true e h rest = ap p (sym (some_is y x h)) ∙ e
  by_test false e h rest = rest h

pub row_id : (rows : List Row) (id : ℕ) (row : Row) → row_at rows id ≡ Some row → row.id ≡ id
row_id rows id row h = same_number row.id id (found_passes (λ (r : Row). nat_eq r.id id) rows row h)

-- one that is kept is changed at its place, and keeps its row
pub known_at-set : (knowns : List Known) (id place : ℕ) (old new : Known) →
    position (λ (k : Known). nat_eq k.row.id id) knowns ≡ Some place → old ≡ get_or knowns place old →
    new.row ≡ old.row → (other : ℕ) →
    known_at (set knowns place new) other ≡ cond (nat_eq id other) (Some new) (known_at knowns other)
known_at-set knowns id place old new stands read row other = by_test (nat_eq id other) refl where
  at : (place ≡ position_or_len (λ (k : Known). nat_eq k.row.id id) knowns) × (place < length knowns)
  at = at_first (λ (k : Known). nat_eq k.row.id id) knowns place stands

  old_is : nat_eq old.row.id id ≡ true
  old_is = found_passes (λ (k : Known). nat_eq k.row.id id) knowns old
      (find-at_position (λ (k : Known). nat_eq k.row.id id) knowns place old stands read)

  new_is : new.row.id ≡ id
  new_is = ap (λ (r : Row). r.id) row ∙ same_number old.row.id id old_is

  by_test : (b : Bool) → nat_eq id other ≡ b →
      known_at (set knowns place new) other ≡ cond b (Some new) (known_at knowns other)
  by_test true e =
      let P : ℕ → Type 0 = λ o. known_at (set knowns place new) o ≡ Some new in
      subst P (same_number id other e)
      (find-set (λ (k : Known). nat_eq k.row.id id) knowns place new at.0 at.1
      (ap (λ n. nat_eq n id) new_is ∙ same_self id))
  by_test false e =
      find_past (λ (k : Known). nat_eq k.row.id other) knowns place new old
      (ap (λ (k : Known). nat_eq k.row.id other) (sym read) ∙
      ap (λ n. nat_eq n other) (same_number old.row.id id old_is) ∙ e)
      (ap (λ n. nat_eq n other) new_is ∙ e)

-- the first of a list made by a function, where that tells which pass
pub find-map : {X Y : Type 0} (p : Y → Bool) (q : X → Bool) (f : X → Y) → ((x : X) → p (f x) ≡ q x) → (xs : List X) →
    find p (map f xs) ≡ option_map f (find q xs)
find-map p q f same [] = refl
find-map p q f same (x ∷ xs) = ap (λ b. cond b (Some (f x)) (find p (map f xs))) (same x) ∙
    by_test (q x) (find-map p q f same xs) where
      by_test : (b : Bool) → find p (map f xs) ≡ option_map f (find q xs) →
          cond b (Some (f x)) (find p (map f xs)) ≡ option_map f (cond b (Some x) (find q xs))
      by_test true rest = refl
      by_test false rest = rest

-- an element written over, as an `ArrayVec` shows it
pub written : {X : Type 0} (xs : List X) (place : ℕ) (x : X) → refill (length xs) xs (set xs place x) ≡ set xs place x
written {X} xs place x =
    ap (λ (rest : List X). take (length xs) (set xs place x ++ rest))
    (drop_of_length-le xs (omega (arith, length-set {A = X})))
    ∙ ap (take (length xs)) (append-nil (set xs place x))
    ∙ take_all (length xs) (set xs place x) (omega (arith, length-set {A = X}))
