-- A text and, behind it, its tag by a key of the group.
use Rattle.std.specs.Prelude.{ℕ, ◌-◌, ◌≡◌, List, [], ◌∷◌, ◌++◌, length, take, drop, Contains}
use Rattle.std.specs.Prelude.{Option, Some, None, Bool, ◌&&◌, nat_le, if◌then◌else◌}
use Rattle.std.specs.List.{list_any}
use Rattle.std.specs.Str.{bytes_eq}
use Rattle.swim_keys.specs.Hmac.{hmac}

-- the bytes of a tag
abbrev pub tag_bytes : ℕ
tag_bytes = 16

-- the keys of a group: the one by which texts are signed, and the others
pub record Keyring : Type 0 where
  pub signing : List ℕ
  pub others : List (List ℕ)

abbrev pub keys_of : Keyring → List (List ℕ)
keys_of ring = ring.signing ∷ ring.others

-- the keyring of these keys, of which the first signs; none where there are none
abbrev pub ring_of : List (List ℕ) → Option Keyring
ring_of [] = None
ring_of (first ∷ others) = Some (record { signing = first; others = others })

-- the tag of a text by a key: the first bytes of its HMAC
abbrev pub tag_of : List ℕ → List ℕ → List ℕ
tag_of key text = take tag_bytes (hmac key text)

-- a text, and behind it its tag
abbrev pub sealed : List ℕ → List ℕ → List ℕ
sealed key text = text ++ tag_of key text

-- the bytes are this text and its tag by one of the keys
abbrev pub IsSealed : Keyring → List ℕ → List ℕ → Type 0
IsSealed ring bytes text = (key : List ℕ) × Contains (keys_of ring) key × (bytes ≡ sealed key text)

-- all but the last bytes, where a tag stands
abbrev pub text_in : List ℕ → List ℕ
text_in bytes = take (length bytes - tag_bytes) bytes

-- the last bytes, where a tag stands
abbrev pub tag_in : List ℕ → List ℕ
tag_in bytes = drop (length bytes - tag_bytes) bytes

-- whether this is the tag of the text by the key
abbrev pub fits : List ℕ → List ℕ → List ℕ → Bool
fits text tag key = bytes_eq (tag_of key text) tag

-- what is handed on of bytes: the text in front, where behind it stands its tag by one of the keys
abbrev pub opened : Keyring → List ℕ → Option (List ℕ)
opened ring bytes =
    if nat_le tag_bytes (length bytes) && list_any (fits (text_in bytes) (tag_in bytes)) (keys_of ring)
    then Some (text_in bytes) else None
