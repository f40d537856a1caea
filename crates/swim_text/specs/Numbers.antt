-- Numbers in text: decimal, with no sign and no zero in front.
use Rattle.std.specs.Prelude.{◌≡◌, ◌≢◌, ℕ, ◌≤◌, ◌<◌, ◌^◌, Bool, true, false, ◌&&◌, nat_lt, nat_le, List, length}
use Rattle.std.specs.Prelude.{slice_index, Option, Some, None, if◌then◌else◌, decimal}
use Rattle.std.specs.Option.{option_and_then}
use Rattle.std.specs.Str.{bytes_eq}
use Rattle.std.specs.Str.Parse.{digits_value}
use Rattle.std.proofs.Common.{cond, refl, sym, ltb, leb}
use Rattle.std.proofs.lemmas.Bool.{and_parts, leb-true, le-leb, lt-ltb, ltb-true}
use Rattle.std.proofs.lemmas.Fmt.{decimal_is_IsNumeral}
use Rattle.std.proofs.lemmas.Slice.Eq.{bytes_eq-Decides}

-- the number, at most the limit, whose decimal digits the text is
abbrev pub number_of : ℕ → List ℕ → Option ℕ
number_of limit text =
    let n = digits_value 10 text in if bytes_eq (decimal n) text && nat_le n limit then Some n else None

-- digits with no sign in front, and no zero in front of another digit
abbrev pub IsPlain : List ℕ → Type 0
IsPlain text = (slice_index text 0 ≢ 43) × (slice_index text 0 ≡ 48 → length text ≡ 1)

-- the same number, without 0
abbrev pub positive_of : ℕ → List ℕ → Option ℕ
positive_of limit text = option_and_then (λ n. if nat_lt 0 n then Some n else None) (number_of limit text)

-- a number is read from its text
pub number_read : (limit n : ℕ) → n ≤ limit → n < 2 ^ 64 → number_of limit (decimal n) ≡ Some n
number_read limit n within small =
    let value : digits_value 10 (decimal n) ≡ n = (decimal_is_IsNumeral n small).1 in
    let same : bytes_eq (decimal n) (decimal n) ≡ true = (bytes_eq-Decides (decimal n) (decimal n)).1 refl in
    rw (value, same, le-leb n limit within) refl

-- and from no other text
pub number_only : (limit : ℕ) (text : List ℕ) (n : ℕ) → number_of limit text ≡ Some n → (text ≡ decimal n) × (n ≤ limit)
number_only limit text n e =
    by (digits_value 10 text)
    (bytes_eq (decimal (digits_value 10 text)) text && leb (digits_value 10 text) limit) refl e where
      by : (m : ℕ) (is : Bool) → (bytes_eq (decimal m) text && leb m limit) ≡ is → cond is (Some m) None ≡ Some n →
          (text ≡ decimal n) × (n ≤ limit)
      by m true h e =
          let m-is : m ≡ n = cc in
          let parts = and_parts (bytes_eq (decimal m) text) (leb m limit) h in
          rw (← m-is) (sym ((bytes_eq-Decides (decimal m) text).0 parts.0), leb-true m limit parts.1)
      by m false h e = absurd cc

-- no number is read where the text is none up to the limit
pub number_none : (limit : ℕ) (text : List ℕ) → ((n : ℕ) → n ≤ limit → text ≡ decimal n → ⊥) →
    number_of limit text ≡ None
number_none limit text is_none = by (number_of limit text) refl where
  by : (o : Option ℕ) → number_of limit text ≡ o → o ≡ None
  by None e = refl
  by (Some n) e = let is = number_only limit text n e in absurd (is_none n is.1 is.0)

-- the same laws, without 0
pub positive_read : (limit n : ℕ) → 0 < n → n ≤ limit → n < 2 ^ 64 → positive_of limit (decimal n) ≡ Some n
positive_read limit n least within small = rw (number_read limit n within small, lt-ltb 0 n least) refl

pub positive_only : (limit : ℕ) (text : List ℕ) (n : ℕ) → positive_of limit text ≡ Some n → (text ≡ decimal n) × (0 < n)
    × (n ≤ limit)
positive_only limit text n e = by (number_of limit text) refl e where
  above : (m : ℕ) (b : Bool) → ltb 0 m ≡ b → cond b (Some m) None ≡ Some n → (m ≡ n) × (0 < m)
  above m true h e = (cc, ltb-true 0 m h)
  above m false h e = absurd cc

  by : (o : Option ℕ) → number_of limit text ≡ o → option_and_then (λ m. cond (ltb 0 m) (Some m) None) o ≡ Some n →
      (text ≡ decimal n) × (0 < n) × (n ≤ limit)
  by None is e = absurd cc
  by (Some m) is e =
      let found = above m (ltb 0 m) refl e in
      let read = number_only limit text m is in
      rw (← found.0) (read.0, found.1, read.1)
