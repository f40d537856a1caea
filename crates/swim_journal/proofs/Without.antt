-- Hexadecimal digits have no byte that is below the digits and the dot: no space, no line feed.
use Rattle.std.proofs.Common.{◌≡◌, ℕ, suc, ◌<◌, ◌≤◌, ◌/◌, ◌%◌, false, List, [], ◌∷◌, slice_index, refl, arith}
use Rattle.hex.specs.Hex.{IsBytes, encode_lower, encode_with, lower_digits}
use Rattle.swim_text.specs.Parts.{has}
use Rattle.swim_text.specs.Without.{one_without}

digit_without : (byte k : ℕ) → byte < 46 → k < 16 → 46 ≤ slice_index lower_digits k
digit_without byte k low small = grind (arith)

pub hex_without : (byte : ℕ) (xs : List ℕ) → byte < 46 → IsBytes xs → has byte (encode_lower xs) ≡ false
unfolding encode_with
hex_without byte [] low bytes = refl
hex_without byte (b ∷ xs) low bytes =
    let small : b < 256 = bytes 0 in
    one_without byte (slice_index lower_digits (b / 16)) (slice_index lower_digits (b % 16) ∷ encode_lower xs) low
    (digit_without byte (b / 16) low (omega (arith, small)))
    (one_without byte (slice_index lower_digits (b % 16)) (encode_lower xs) low
    (digit_without byte (b % 16) low (omega (arith, small)))
    (hex_without byte xs low (λ k. bytes (suc k))))
