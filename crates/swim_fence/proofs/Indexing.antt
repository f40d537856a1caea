-- Addresses that are found by their hashes.
use Rattle.std.proofs.Common.{◌≡◌, ◌⊎◌, ℕ, ◌+◌, ◌<◌, ◌≤◌, min, max, Bool, true, false, List, length, get_or, set, Some}
use Rattle.std.proofs.Common.{None, refl, sym, ◌∙◌, ap, subst, arith, below_more, inl, inr, replicate}
use Rattle.std.specs.List.{position}
use Rattle.std.proofs.lemmas.Bool.{cases_eq, cases_lt}
use Rattle.std.proofs.lemmas.List.{get_or-set_same, get_or-set_other, get_or_default, get_or-replicate, get_or_past}
use Rattle.std.proofs.lemmas.List.{length-replicate}
use Rattle.swim_wire.specs.Address.{Address}
use Rattle.swim_fence.specs.Histories.{is_same}
use Rattle.swim_fence.specs.Places.{IsIndexed, hash_of}
use Rattle.swim_fence.proofs.Same.{one_address, position-at, position-none}

-- none of the places from the start of the hash on is the address's
abbrev pub IsPassed : List Address → ℕ → Address → ℕ → Type 0
IsPassed members start a place = (k : ℕ) (d : Address) → start ≤ k → k < place → is_same a (get_or members k d) ≡ false

-- one place more
pub passed_more : (members : List Address) (start : ℕ) (a b : Address) (place : ℕ) → IsPassed members start a place →
    place < length members →
    b ≡ get_or members place b → is_same a b ≡ false → IsPassed members start a (place + 1)
passed_more members start a b place before within read other k d from below = by_place (cases_eq k place) where
  by_place : (k ≡ place) ⊎ (k ≡ place → ⊥) → is_same a (get_or members k d) ≡ false
  by_place (inl here) =
      ap (λ n. is_same a (get_or members n d)) here ∙
      ap (is_same a) (get_or_default members place d b within ∙ sym read) ∙ other
  by_place (inr apart) = before k d from (omega arith)

-- an address stands in the span of its hash alone
outside : (members : List Address) (starts ends : List ℕ) (a : Address) (k : ℕ) (d : Address) →
    IsIndexed members starts ends → k < length members →
    (get_or starts (hash_of a) 0 ≤ k → k < get_or ends (hash_of a) 0 → is_same a (get_or members k d) ≡ false) →
    is_same a (get_or members k d) ≡ false
outside members starts ends a k d indexed within inside = by_test (is_same a (get_or members k d)) refl where
  by_test : (b : Bool) → is_same a (get_or members k d) ≡ b → is_same a (get_or members k d) ≡ false
  by_test true e =
      let one : get_or members k d ≡ a = sym (one_address a (get_or members k d) e) in
      let begins = subst (λ (q : Address). get_or starts (hash_of q) 0 ≤ k) one (indexed.begins k d within) in
      let ends_behind = subst (λ (q : Address). k < get_or ends (hash_of q) 0) one (indexed.ends_behind k d within) in
      inside begins ends_behind
  by_test false e = e

-- the place that is met first is the first
pub found : (members : List Address) (starts ends : List ℕ) (a b : Address) (start place : ℕ) →
    IsIndexed members starts ends → start ≡ get_or starts (hash_of a) 0 →
    IsPassed members start a place → place < length members → b ≡ get_or members place b → is_same a b ≡ true →
    position (is_same a) members ≡ Some place
found members starts ends a b start place indexed begin passed within read same =
    position-at (is_same a) members place b within
    (λ k below. outside members starts ends a k b indexed (omega arith) (λ from to. passed k b (omega arith) below))
    (ap (is_same a) (sym read) ∙ same)

-- where none is met there is none
pub not_found : (members : List Address) (starts ends : List ℕ) (a : Address) (start end place : ℕ) →
    IsIndexed members starts ends → start ≡ get_or starts (hash_of a) 0 →
    end ≡ get_or ends (hash_of a) 0 → IsPassed members start a place → end ≤ place → position (is_same a) members ≡ None
not_found members starts ends a start end place indexed begin finish passed behind =
    position-none (is_same a) members a
    (λ k below. outside members starts ends a k a indexed below (λ from to. passed k a (omega arith) (omega arith)))

-- the first places stand in the spans of their hashes
pub record AreIndexed (members : List Address) (starts ends : List ℕ) (count : ℕ) : Type 0 where
  pub within : (hash : ℕ) → get_or ends hash 0 ≤ count
  pub begins : (place : ℕ) → place < count → (d : Address) → get_or starts (hash_of (get_or members place d)) 0 ≤ place
  pub ends_behind : (place : ℕ) → place < count → (d : Address) →
      place < get_or ends (hash_of (get_or members place d)) 0

-- a write that lowers lowers all
lowered : (xs : List ℕ) (at new : ℕ) → new ≤ get_or xs at 0 → at < length xs → (i : ℕ) →
    get_or (set xs at new) i 0 ≤ get_or xs i 0
lowered xs at new less within i = by_place (cases_eq i at) where
  by_place : (i ≡ at) ⊎ (i ≡ at → ⊥) → get_or (set xs at new) i 0 ≤ get_or xs i 0
  by_place (inl here) =
      let P : ℕ → Type 0 = λ n. get_or (set xs at new) n 0 ≤ get_or xs n 0 in
      subst P (sym here) (omega (arith, get_or-set_same xs at new 0 within))
  by_place (inr apart) = omega (arith, get_or-set_other xs at i new 0 apart)

raised : (xs : List ℕ) (at new : ℕ) → get_or xs at 0 ≤ new → at < length xs → (i : ℕ) →
    get_or xs i 0 ≤ get_or (set xs at new) i 0
raised xs at new more within i = by_place (cases_eq i at) where
  by_place : (i ≡ at) ⊎ (i ≡ at → ⊥) → get_or xs i 0 ≤ get_or (set xs at new) i 0
  by_place (inl here) =
      let P : ℕ → Type 0 = λ n. get_or xs n 0 ≤ get_or (set xs at new) n 0 in
      subst P (sym here) (omega (arith, get_or-set_same xs at new 0 within))
  by_place (inr apart) = omega (arith, get_or-set_other xs at i new 0 apart)

bounded : (xs : List ℕ) (at new most : ℕ) → ((i : ℕ) → get_or xs i 0 ≤ most) → new ≤ most → at < length xs → (i : ℕ) →
    get_or (set xs at new) i 0 ≤ most
bounded xs at new most all less within i = by_place (cases_eq i at) where
  by_place : (i ≡ at) ⊎ (i ≡ at → ⊥) → get_or (set xs at new) i 0 ≤ most
  by_place (inl here) =
      let P : ℕ → Type 0 = λ n. get_or (set xs at new) n 0 ≤ most in
      subst P (sym here) (omega (arith, get_or-set_same xs at new 0 within))
  by_place (inr apart) = omega (arith, get_or-set_other xs at i new 0 apart, all i)

-- one place more
pub indexed_more : (members : List Address) (starts ends : List ℕ) (place hash start end : ℕ) (m : Address) →
    AreIndexed members starts ends place → place < length members →
    m ≡ get_or members place m → hash ≡ hash_of m → hash < length starts → hash < length ends →
    start ≡ min (get_or starts hash 0) place →
    end ≡ max (get_or ends hash 0) (place + 1) →
    AreIndexed members (set starts hash start) (set ends hash end) (place + 1)
indexed_more members starts ends place hash start end m before within read hashed in_starts in_ends start_is end_is =
    record {
      within = bounded ends hash end (place + 1) (λ i. omega (arith, before.within i))
          (omega (arith, before.within hash)) in_ends;
      begins = below_more (λ k. (d : Address) → get_or (set starts hash start) (hash_of (get_or members k d)) 0 ≤ k)
          place
          (λ k below d. omega (
            arith,
            before.begins k below d,
            lowered starts hash start (omega arith) in_starts (hash_of (get_or members k d)),
          ))
          (λ d. omega (
            arith,
            ap (λ n. get_or (set starts hash start) n 0) (at_place d),
            get_or-set_same starts hash start 0 in_starts,
          ));
      ends_behind = below_more (λ k. (d : Address) → k < get_or (set ends hash end) (hash_of (get_or members k d)) 0)
          place
          (λ k below d. omega (
            arith,
            before.ends_behind k below d,
            raised ends hash end (omega arith) in_ends (hash_of (get_or members k d)),
          ))
          (λ d. omega (
            arith,
            ap (λ n. get_or (set ends hash end) n 0) (at_place d),
            get_or-set_same ends hash end 0 in_ends,
          ));
    } where
      at_place : (d : Address) → hash_of (get_or members place d) ≡ hash
      at_place d = ap hash_of (get_or_default members place d m within ∙ sym read) ∙ sym hashed

-- before the first place nothing is to be found
zero_in : (n i : ℕ) → get_or (replicate n 0) i 0 ≤ 0
zero_in n i = by_place (cases_lt i n) where
  by_place : (i < n) ⊎ (n ≤ i) → get_or (replicate n 0) i 0 ≤ 0
  by_place (inr past) =
      omega (arith, get_or_past {X = ℕ} (replicate n 0) i 0 (omega (arith, length-replicate {A = ℕ} n 0)))
  by_place (inl within) = omega (arith, get_or-replicate {A = ℕ} n i 0 0 within)

pub indexed_none : (members : List Address) (starts : List ℕ) (n : ℕ) → AreIndexed members starts (replicate n 0) 0
indexed_none members starts n = record {
  within = zero_in n;
  begins = λ place below d. absurd (omega arith);
  ends_behind = λ place below d. absurd (omega arith);
}

-- all places do
pub IsIndexed-from_all : (members : List Address) (starts ends : List ℕ) (count : ℕ) →
    AreIndexed members starts ends count → count ≡ length members → IsIndexed members starts ends
IsIndexed-from_all members starts ends count all e = record {
  within = λ hash. omega (arith, all.within hash);
  begins = λ place d below. all.begins place (omega arith) d;
  ends_behind = λ place d below. all.ends_behind place (omega arith) d;
}
