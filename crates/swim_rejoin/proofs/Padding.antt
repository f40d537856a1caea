-- Numbers with zeros behind them, where they are fewer than there is room for.
use Rattle.std.proofs.Common.{◌≡◌, ℕ, ◌+◌, ◌<◌, zero, suc, false, cond, ◌||◌, nat_eq, nat_lt, List, [], ◌∷◌, take}
use Rattle.std.proofs.Common.{replicate, refl, sym, ap, ◌∙◌, arith}
use Rattle.std.specs.List.{list_any, count_by}
use Rattle.std.proofs.lemmas.List.Sums.{sum_by-cons}
use Rattle.swim_rejoin.specs.Knowing.{padded}

pub padded-none : (room : ℕ) → padded room [] ≡ replicate room 0
padded-none zero = refl
padded-none (suc room) = ap (λ (numbers : List ℕ). 0 ∷ numbers) (padded-none room)

take-padded : (room : ℕ) (numbers : List ℕ) → take room (padded (suc room) numbers) ≡ padded room numbers
take-padded zero numbers = refl
take-padded (suc room) [] = ap (λ (rest : List ℕ). 0 ∷ rest) (take-padded room [])
take-padded (suc room) (number ∷ numbers) = ap (λ rest. number ∷ rest) (take-padded room numbers)

-- one more in front
pub padded-push : (number : ℕ) (numbers : List ℕ) → number ∷ take 63 (padded 64 numbers) ≡ padded 64 (number ∷ numbers)
padded-push number numbers = ap (λ rest. number ∷ rest) (take-padded 63 numbers)

-- a number other than 0 is none of the zeros
positive_differs : (n : ℕ) → 0 < n → nat_eq n 0 ≡ false
positive_differs n positive = grind arith

none_in_zeros : (n room : ℕ) → 0 < n → list_any (nat_eq n) (padded room []) ≡ false
none_in_zeros n zero positive = refl
none_in_zeros n (suc room) positive =
    ap (λ b. b || list_any (nat_eq n) (padded room [])) (positive_differs n positive) ∙ none_in_zeros n room positive

pub list_any-padded : (n room : ℕ) (numbers : List ℕ) → 0 < n →
    list_any (nat_eq n) (padded room numbers) ≡ list_any (nat_eq n) (take room numbers)
list_any-padded n zero numbers positive = refl
list_any-padded n (suc room) [] positive = none_in_zeros n (suc room) positive
list_any-padded n (suc room) (number ∷ numbers) positive =
    ap (λ b. nat_eq n number || b) (list_any-padded n room numbers positive)

-- and none of the zeros is later than any period
none_before : (period : ℕ) → nat_lt period 0 ≡ false
none_before period = grind arith

count_zeros : (period room : ℕ) → count_by (nat_lt period) (padded room []) ≡ 0
count_zeros period zero = refl
count_zeros period (suc room) =
    sum_by-cons (λ number. cond (nat_lt period number) 1 0) 0 (padded room [])
    ∙ ap (λ b. cond b 1 0 + count_by (nat_lt period) (padded room [])) (none_before period)
    ∙ ap (λ n. 0 + n) (count_zeros period room)

pub count_by-padded : (period room : ℕ) (numbers : List ℕ) →
    count_by (nat_lt period) (padded room numbers) ≡ count_by (nat_lt period) (take room numbers)
count_by-padded period zero numbers = refl
count_by-padded period (suc room) [] = count_zeros period (suc room)
count_by-padded period (suc room) (number ∷ numbers) =
    sum_by-cons (λ n. cond (nat_lt period n) 1 0) number (padded room numbers)
    ∙ ap (λ n. cond (nat_lt period number) 1 0 + n) (count_by-padded period room numbers)
    ∙ sym (sum_by-cons (λ n. cond (nat_lt period n) 1 0) number (take room numbers))
