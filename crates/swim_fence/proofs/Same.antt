-- Addresses that are the same, and where one stands in a list.
use Rattle.std.proofs.Common.{◌≡◌, ℕ, ◌<◌, ◌+◌, Bool, true, false, cond, ◌&&◌, ◌||◌, not, nat_lt, List, [], ◌∷◌, length}
use Rattle.std.proofs.Common.{suc, get_or, Some, None, refl, ◌∙◌, ap, subst, arith, nat_eq}
use Rattle.std.specs.List.{list_any, position, position_or_len}
use Rattle.std.specs.Str.{bytes_eq}
use Rattle.std.proofs.lemmas.Bool.Decides.{Decides-eqb}
use Rattle.std.proofs.lemmas.List.Sums.{passes_at_first, position_or_len_is}
use Rattle.std.proofs.lemmas.Bool.{lt-ltb, ltb-true}
use Rattle.std.proofs.lemmas.Option.{cond_some}
use Rattle.std.proofs.lemmas.Slice.Eq.{bytes_eq-Decides}
use Rattle.swim_wire.specs.Address.{Address}
use Rattle.swim_fence.specs.Histories.{is_same}

and_both : (a b : Bool) → (a && b) ≡ true → (a ≡ true) × (b ≡ true)
and_both true true h = (refl, refl)
and_both true false h = cc
and_both false b h = cc

abbrev made : List ℕ → ℕ → Address
made ip port = record { ip = ip; port = port }

-- addresses that are found to be the same are one
pub one_address : (a b : Address) → is_same a b ≡ true → a ≡ b
one_address a b h =
    let parts = and_both (bytes_eq a.ip b.ip) (nat_eq a.port b.port) h in
    ap (λ ip. made ip a.port) ((bytes_eq-Decides a.ip b.ip).0 parts.0) ∙
    ap (made b.ip) ((Decides-eqb a.port b.port).0 parts.1)

-- an address is the same as itself
pub is_same-self : (a : Address) → is_same a a ≡ true
is_same-self a = ap (λ b. b && nat_eq a.port a.port) ((bytes_eq-Decides a.ip a.ip).1 refl) ∙
    (Decides-eqb a.port a.port).1 refl

-- an element passes exactly where the first that passes stands in the list
pub list_any-position : {A : Type 0} (p : A → Bool) (xs : List A) →
    list_any p xs ≡ nat_lt (position_or_len p xs) (length xs)
list_any-position p [] = refl
list_any-position p (x ∷ xs) =
    by_head (p x) (list_any p xs) (position_or_len p xs) (length xs) (list_any-position p xs) where
      by_head : (here some : Bool) (first size : ℕ) → some ≡ nat_lt first size →
          (here || some) ≡ nat_lt (cond (not here) (1 + first) 0) (suc size)
      by_head true some first size h = grind arith
      by_head false some first size h = h ∙ grind arith

-- what stands at the place that is found passes
pub at_position : {A : Type 0} (p : A → Bool) (xs : List A) (place : ℕ) (d : A) → position p xs ≡ Some place →
    (place < length xs) × (p (get_or xs place d) ≡ true)
at_position p xs place d h =
    let found = cond_some (nat_lt (position_or_len p xs) (length xs)) (position_or_len p xs) place h in
    let within = ltb-true (position_or_len p xs) (length xs) found.0 in
    let P : ℕ → Type 0 = λ n. (n < length xs) × (p (get_or xs n d) ≡ true) in
    subst P found.1 (within, passes_at_first p xs d within)

-- an address that is found is listed, and one that isn't is not
pub list_any-at_some : {A : Type 0} (p : A → Bool) (xs : List A) (place : ℕ) → position p xs ≡ Some place →
    list_any p xs ≡ true
list_any-at_some p xs place h = list_any-position p xs ∙
    (cond_some (nat_lt (position_or_len p xs) (length xs)) (position_or_len p xs) place h).0

cond_none : {A : Type 0} (b : Bool) (x : A) → cond b (Some x) None ≡ None → b ≡ false
cond_none true x h = cc
cond_none false x h = refl

pub list_any-at_none : {A : Type 0} (p : A → Bool) (xs : List A) → position p xs ≡ None → list_any p xs ≡ false
list_any-at_none p xs h = list_any-position p xs ∙
    cond_none (nat_lt (position_or_len p xs) (length xs)) (position_or_len p xs) h

-- the first place that passes is found
pub position-at : {A : Type 0} (p : A → Bool) (xs : List A) (place : ℕ) (d : A) → place < length xs →
    ((k : ℕ) → k < place → p (get_or xs k d) ≡ false) →
    p (get_or xs place d) ≡ true → position p xs ≡ Some place
position-at p xs place d within before here =
    let first = position_or_len_is p xs place d (omega arith) before (λ _. here) in
    ap (λ n. cond (nat_lt n (length xs)) (Some n) None) first ∙
    ap (λ b. cond b (Some place) None) (lt-ltb place (length xs) within)

-- none is found where none passes
pub position-none : {A : Type 0} (p : A → Bool) (xs : List A) (d : A) →
    ((k : ℕ) → k < length xs → p (get_or xs k d) ≡ false) → position p xs ≡ None
position-none p xs d none =
    let first = position_or_len_is p xs (length xs) d (omega arith) none (λ over. absurd (omega arith)) in
    ap (λ n. cond (nat_lt n (length xs)) (Some n) None) first ∙
    ap (λ b. cond b (Some (length xs)) None) (not_below (length xs)) where
      not_below : (n : ℕ) → nat_lt n n ≡ false
      not_below n = grind arith
