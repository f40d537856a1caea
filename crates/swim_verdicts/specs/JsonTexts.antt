-- Texts in JSON.
use Rattle.std.specs.Prelude.{ℕ, ◌/◌, ◌%◌, ◌==◌, nat_lt, false, List, [], ◌∷◌, ◌++◌, codes, encode_utf8, flat_map}
use Rattle.std.specs.Prelude.{if◌then◌else◌}
use Rattle.std.specs.Fmt.{digit_glyph}
use Rattle.std.specs.Str.{chars}

-- a letter as it stands in a JSON string: a quote and a backslash behind a backslash, and a control character as a
-- number of four hexadecimal digits
abbrev pub json_letter : ℕ → List ℕ
json_letter letter =
    if letter == 34 then codes "\\\"" else (if letter == 92 then codes "\\\\" else (if nat_lt letter 32
    then codes "\\u00" ++ (digit_glyph false (letter / 16) ∷ digit_glyph false (letter % 16) ∷ [])
    else encode_utf8 letter))

-- a text as a JSON string
abbrev pub json_text : List ℕ → List ℕ
json_text text = codes "\"" ++ (flat_map json_letter (chars text) ++ codes "\"")
