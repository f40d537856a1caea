-- Texts in which a byte doesn't stand that is below the digits and the dot: a space, a line feed.
use Rattle.std.specs.Prelude.{◌≡◌, ℕ, zero, suc, ◌+◌, ◌<◌, ◌≤◌, ◌/◌, ◌%◌, ◌==◌, Bool, true, false, List, [], ◌∷◌, ◌++◌}
use Rattle.std.specs.Prelude.{decimal, refl}
use Rattle.std.specs.Fmt.{digits, digits_onto, digit_glyph}
use Rattle.std.proofs.Common.{eqb, cond, ◌∙◌, arith}
use Rattle.std.proofs.lemmas.Bool.{or_from, ne_eqb, lt-ltb}
use Rattle.std.proofs.lemmas.List.Folds.{list_any-append}
use Rattle.swim_text.specs.Parts.{has}

pub both_without : (byte : ℕ) (xs ys : List ℕ) → has byte xs ≡ false → has byte ys ≡ false → has byte (xs ++ ys) ≡ false
both_without byte xs ys p q = list_any-append (λ b. eqb b byte) xs ys ∙ or_from _ _ p q

pub one_without : (byte other : ℕ) (ys : List ℕ) → byte < 46 → 46 ≤ other → has byte ys ≡ false →
    has byte (other ∷ ys) ≡ false
one_without byte other ys low high q = or_from _ _ (ne_eqb other byte (λ e. omega (arith, e))) q

-- ---- numbers

glyph_without : (byte d : ℕ) → byte < 46 → d < 10 → eqb (digit_glyph false d) byte ≡ false
glyph_without byte d low small = rw (lt-ltb d 10 small) (ne_eqb (48 + d) byte (λ e. omega (arith, e)))

digits_without : (byte count n : ℕ) (after : List ℕ) → byte < 46 → has byte after ≡ false →
    has byte (digits_onto count 10 false n after) ≡ false
digits_without byte zero n after low none = none
digits_without byte (suc count) n after low none =
    let one : has byte (digit_glyph false (n % 10) ∷ after) ≡ false =
    or_from _ _ (glyph_without byte (n % 10) low (omega arith)) none in
    by (n / 10 == 0) one (digits_without byte count (n / 10) (digit_glyph false (n % 10) ∷ after) low one)
  where
    by : (is_last : Bool) → has byte (digit_glyph false (n % 10) ∷ after) ≡ false →
        has byte (digits_onto count 10 false (n / 10) (digit_glyph false (n % 10) ∷ after)) ≡ false →
        has byte (cond is_last (digit_glyph false (n % 10) ∷ after)
        (digits_onto count 10 false (n / 10) (digit_glyph false (n % 10) ∷ after))) ≡ false
    by true one more = one
    by false one more = more

pub number_without : (byte n : ℕ) → byte < 46 → has byte (decimal n) ≡ false
unfolding digits
number_without byte n low = digits_without byte 64 n [] low refl
