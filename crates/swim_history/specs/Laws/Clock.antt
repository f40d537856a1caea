-- Laws of the clock: how one tick changes the period's number and its phase.
use Rattle.std.proofs.Common.{◌≡◌, ◌≢◌, ◌⊎◌, ℕ, zero, suc, ◌+◌, ◌*◌, ◌/◌, ◌%◌, ◌<◌, ap, ◌∙◌, inl, inr, arith}
use Rattle.std.proofs.Math.Nat.{mod-lt, zero-div, zero-mod}
use Rattle.std.proofs.lemmas.Nat.{div-mul-add, mod-mul-add, div-add-mod'}
use Rattle.std.proofs.lemmas.Bool.{cases_lt}
use Rattle.swim_history.specs.Clock.{number_at}

-- what one more does to a quotient and its remainder: only where the remainder is the last does the quotient rise
pub record Within (s p : ℕ) : Type 0 where
  pub below : s % p + 1 < p
  pub quotient : suc s / p ≡ s / p
  pub remainder : suc s % p ≡ s % p + 1

pub record Wraps (s p : ℕ) : Type 0 where
  pub last : s % p + 1 ≡ p
  pub quotient : suc s / p ≡ s / p + 1
  pub remainder : suc s % p ≡ 0

-- one more multiple
next_multiple : (q p : ℕ) → (q + 1) * p ≡ q * p + p
next_multiple q p = grind arith

pub one_more : (s p : ℕ) → 0 < p → Within s p ⊎ Wraps s p
one_more s p positive =
    let whole : s / p * p + s % p ≡ s = div-add-mod' s p in
    let below : s % p < p = mod-lt s positive in
    elim (cases_lt (s % p + 1) p) [
      | inl lt ↦
          let same : suc s ≡ s / p * p + (s % p + 1) = omega arith in
          inl (record {
            below = lt;
            quotient = ap (λ n. n / p) same ∙ div-mul-add (s / p) p (s % p + 1) lt;
            remainder = ap (λ n. n % p) same ∙ mod-mul-add (s / p) p (s % p + 1) lt;
          })
      | inr le ↦
          let last : s % p + 1 ≡ p = omega arith in
          let next : (s / p + 1) * p ≡ s / p * p + p = next_multiple (s / p) p in
          let same : suc s ≡ (s / p + 1) * p + 0 = omega arith in
          inr (record {
            last = last;
            quotient = ap (λ n. n / p) same ∙ div-mul-add (s / p + 1) p 0 positive;
            remainder = ap (λ n. n % p) same ∙ mod-mul-add (s / p + 1) p 0 positive;
          })
    ]

-- at phase 0 the next tick begins the period with the next number
pub number_at-start : (last p t : ℕ) → 0 < p → t % p ≡ 0 → number_at last p (suc t) ≡ number_at last p t + 1
number_at-start last p zero positive begins = omega (arith, zero-div p)
number_at-start last p (suc s) positive begins =
    elim (one_more s p positive) [
      | inl w ↦ absurd (omega (arith, w.remainder))
      | inr w ↦ omega (arith, w.quotient)
    ]

-- at another phase the next tick belongs to the same period
pub number_at-within : (last p t : ℕ) → 0 < p → t % p ≢ 0 → number_at last p (suc t) ≡ number_at last p t
number_at-within last p zero positive inside = absurd (inside (zero-mod p))
number_at-within last p (suc s) positive inside =
    elim (one_more s p positive) [
      | inl w ↦ omega (arith, w.quotient)
      | inr w ↦ absurd (inside w.remainder)
    ]
