-- The key that a text is.
use Rattle.std.specs.Prelude.{ℕ, List, Result}
use Rattle.std.specs.Result.{result_map_both}
use Rattle.hex.specs.Hex.{decode_sized}
use Rattle.hex.specs.declared.error.FromHexError.{FromHexError}
use Rattle.hex.specs.declared.error.FromHexError.TheVariants.{InvalidHexCharacter, OddLength}
use Rattle.hex.specs.declared.error.FromHexError.TheVariants.{InvalidStringLength, OutOfMemory}
use Rattle.swim_keys.specs.declared.key_texts.KeyFault.{KeyFault}
use Rattle.swim_keys.specs.declared.key_texts.KeyFault.TheVariants.{Length, Digit}

-- the bytes of a key
abbrev pub key_bytes : ℕ
key_bytes = 32

-- what is told of a fault in hex digits
abbrev pub told : FromHexError → KeyFault
told (InvalidHexCharacter c place) = Digit place
told OddLength = Length
told InvalidStringLength = Length
told OutOfMemory = Length

-- the 32 bytes that 64 hex digits spell, of either case
abbrev pub key_of : List ℕ → Result (List ℕ) KeyFault
key_of text = result_map_both (λ bytes. bytes) told (decode_sized text key_bytes)
