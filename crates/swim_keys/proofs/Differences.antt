-- Bytes that are masked, and bytes that differ.
use Rattle.std.proofs.Common.{◌≡◌, ℕ, ◌+◌, ◌<◌, List, length, get_or, sym, ◌∙◌, ap, arith, bit_xor, bit_or, nat_eq}
use Rattle.std.proofs.Common.{below_more}
use Rattle.std.specs.Bool.{Decides}
use Rattle.std.specs.Int.{bit_at}
use Rattle.std.specs.Int.Bits.{xor_self}
use Rattle.std.specs.Str.{bytes_eq}
use Rattle.std.proofs.lemmas.Nat.{le_or_l, le_or_r}
use Rattle.std.proofs.lemmas.Nat.Bits.{same_from_bits, bit_at_xor, bit_at-zero, bit_at-lt}
use Rattle.std.proofs.lemmas.Grind.{same_number_lists}
use Rattle.std.proofs.lemmas.Slice.Eq.{bytes_eq-Decides}
use Rattle.std.proofs.lemmas.Bool.Decides.{same_from_decides, Decides-eqb}

-- numbers of which no bit differs are the same
pub same_from_xor : (a b : ℕ) → bit_xor a b ≡ 0 → a ≡ b
same_from_xor a b none =
    same_from_bits a b (λ i.
    let xored = sym (bit_at_xor a b i) ∙ ap (λ n. bit_at n i) none ∙ bit_at-zero i in
    omega (arith, xored, bit_at-lt a i, bit_at-lt b i))

-- nothing is set in either of two numbers of which nothing is set in both together
pub or_zero_l : (a b : ℕ) → bit_or a b ≡ 0 → a ≡ 0
or_zero_l a b none = omega (arith, le_or_l a b)

pub or_zero_r : (a b : ℕ) → bit_or a b ≡ 0 → b ≡ 0
or_zero_r a b none = omega (arith, le_or_r a b)

-- two numbers in which nothing is set have nothing set together
pub or_of_zeros : (a b : ℕ) → a ≡ 0 → b ≡ 0 → bit_or a b ≡ 0
or_of_zeros a b e f = ap (λ n. bit_or n b) e ∙ ap (λ n. bit_or 0 n) f

pub xor_same : (a b : ℕ) → a ≡ b → bit_xor a b ≡ 0
xor_same a b e = ap (λ n. bit_xor n b) e ∙ xor_self b

-- the bytes in front are the same
abbrev pub AreSame : List ℕ → List ℕ → ℕ → Type 0
AreSame xs ys i = (k : ℕ) → k < i → get_or xs k 0 ≡ get_or ys k 0

-- one byte more
pub same_more : (xs ys : List ℕ) (i difference : ℕ) → (difference ≡ 0 → AreSame xs ys i) →
    bit_or difference (bit_xor (get_or xs i 0) (get_or ys i 0)) ≡ 0 → AreSame xs ys (i + 1)
same_more xs ys i difference before none =
    below_more (λ k. get_or xs k 0 ≡ get_or ys k 0) i (before (or_zero_l _ _ none))
    (same_from_xor _ _ (or_zero_r _ _ none))

pub none_more : (xs ys : List ℕ) (i difference : ℕ) → (AreSame xs ys i → difference ≡ 0) → AreSame xs ys (i + 1) →
    bit_or difference (bit_xor (get_or xs i 0) (get_or ys i 0)) ≡ 0
none_more xs ys i difference before same =
    or_of_zeros _ _ (before (λ k below. same k (omega arith))) (xor_same _ _ (same i (omega arith)))

-- no difference in all bytes is what a comparison of lists tells
pub same_by_bytes : (xs ys : List ℕ) (n difference : ℕ) → length xs ≡ n → length ys ≡ n →
    (difference ≡ 0 → AreSame xs ys n) →
    (AreSame xs ys n → difference ≡ 0) → nat_eq difference 0 ≡ bytes_eq xs ys
same_by_bytes xs ys n difference long short same none =
    let by_bytes : Decides (bytes_eq xs ys) (difference ≡ 0) = (
      λ yes. none (λ k below. ap (λ zs. get_or zs k 0) ((bytes_eq-Decides xs ys).0 yes)),
      λ zero. (bytes_eq-Decides xs ys).1
          (same_number_lists xs ys (long ∙ sym short) (λ k below. same zero k (omega arith))),
    ) in
    same_from_decides _ _ (Decides-eqb difference 0) by_bytes
