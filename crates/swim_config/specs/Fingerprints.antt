-- The fingerprint of a key of the group.
use Rattle.std.specs.Prelude.{ℕ, List, take}
use Rattle.hex.specs.Hex.{encode_lower}
use Rattle.sha2.specs.Sha256.{sha256}

-- the first 8 hexadecimal digits of the SHA-256 of the key's bytes, in lower case
abbrev pub fingerprint_of : List ℕ → List ℕ
fingerprint_of key = encode_lower (take 4 (sha256 key))
