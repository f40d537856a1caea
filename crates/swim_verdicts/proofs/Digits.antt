-- The number that digits tell.
use Rattle.std.proofs.Common.{◌≡◌, ℕ, ◌+◌, ◌-◌, ◌*◌, ◌<◌, ◌^◌, true, List, [], ◌∷◌, ◌++◌, refl, rules}
use Rattle.std.specs.Prelude.{decimal}
use Rattle.std.specs.Str.{all_ascii_digits}
use Rattle.std.proofs.lemmas.Str.Parse.{IsNumeralModel, numerals_by_fold}
use Rattle.std.proofs.lemmas.Fmt.{digits_value-decimal}

-- the number that digits tell behind others, which tell n
abbrev pub read_on : ℕ → List ℕ → ℕ
read_on n [] = n
read_on n (d ∷ digits) = read_on (10 * n + (d - 48)) digits

own : IsNumeralModel (λ digits. all_ascii_digits digits ≡ true) (read_on 0)
own = numerals_by_fold _ (search rules) read_on (search rules)

pub read_on-decimal : (n : ℕ) → n < 2 ^ 64 → read_on 0 (decimal n) ≡ n
read_on-decimal n small = digits_value-decimal own n small

pub read_on-append : (n : ℕ) (digits : List ℕ) (d : ℕ) → read_on n (digits ++ d ∷ []) ≡ 10 * read_on n digits + (d - 48)
read_on-append n [] d = refl
read_on-append n (c ∷ digits) d = read_on-append (10 * n + (c - 48)) digits d
