-- The text of an address has no byte that is below the digits and the dot: no space, no line feed.
use Rattle.std.specs.Prelude.{◌≡◌, ℕ, ◌<◌, false, List, [], ◌∷◌, map, decimal, refl}
use Rattle.std.specs.List.{join_with_byte}
use Rattle.std.proofs.Common.{arith}
use Rattle.swim_wire.specs.Address.{Address, dot, colon, address_text}
use Rattle.swim_text.specs.Parts.{has}
use Rattle.swim_text.specs.Without.{both_without, one_without, number_without}

octets_without : (byte : ℕ) (ip : List ℕ) → byte < 46 → has byte (join_with_byte dot (map decimal ip)) ≡ false
octets_without byte [] low = refl
octets_without byte (a ∷ []) low = number_without byte a low
octets_without byte (a ∷ b ∷ ip) low =
    both_without byte (decimal a) (dot ∷ join_with_byte dot (map decimal (b ∷ ip))) (number_without byte a low)
    (one_without byte dot (join_with_byte dot (map decimal (b ∷ ip))) low (omega arith)
    (octets_without byte (b ∷ ip) low))

pub address_without : (byte : ℕ) (p : Address) → byte < 46 → has byte (address_text p) ≡ false
address_without byte p low =
    both_without byte (join_with_byte dot (map decimal p.ip)) (colon ∷ decimal p.port) (octets_without byte p.ip low)
    (one_without byte colon (decimal p.port) low (omega arith) (number_without byte p.port low))
