-- What became of some calls, and then of others.
use Rattle.std.proofs.Common.{◌≡◌, ℕ, ◌+◌, ◌-◌, ◌^◌, ◌≤◌, min, List, [], ◌∷◌, ◌++◌, sym, arith, zero-add}
use Rattle.swim_work.specs.Outcomes.{Outcome, memory_in}

pub memory_both : (xs ys : List Outcome) → memory_in (xs ++ ys) ≡ memory_in xs + memory_in ys
memory_both [] ys = sym (zero-add (memory_in ys))
memory_both (x ∷ xs) ys = let is = memory_both xs ys in omega (arith, is)

-- a count, and then another
pub counted : (a b c m n mn : ℕ) → (a ≤ 2 ^ 64 - 1 → b ≡ min (a + m) (2 ^ 64 - 1)) →
    (b ≤ 2 ^ 64 - 1 → c ≡ min (b + n) (2 ^ 64 - 1)) → mn ≡ m + n → a ≤ 2 ^ 64 - 1 → c ≡ min (a + mn) (2 ^ 64 - 1)
counted a b c m n mn first then is within =
    let mid : b ≡ min (a + m) (2 ^ 64 - 1) = first within in
    let below : b ≤ 2 ^ 64 - 1 = omega (arith, mid) in
    let last : c ≡ min (b + n) (2 ^ 64 - 1) = then below in
    omega (arith, mid, last, is)
