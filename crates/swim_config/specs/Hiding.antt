-- Which digits of a document no line shows: whoever reads a fault is to learn no key and no seed.
use Rattle.std.specs.Prelude.{◌≡◌, ℕ, suc, ◌+◌, ◌<◌, ◌≤◌, Bool, true, false, ◌&&◌, ◌||◌, ◌==◌, nat_lt, nat_le, List, []}
use Rattle.std.specs.Prelude.{◌∷◌, ◌++◌, length, map, if◌then◌else◌}
use Rattle.std.specs.Char.{is_ascii_digit, is_ascii_hexdigit}
use Rattle.std.specs.List.{list_all}
use Rattle.swim_config.specs.Configuration.{is_printing}
use Rattle.swim_config.specs.declared.line_ends.LineEnd.{LineEnd}

-- ---- the end of a line

-- that of a line with nothing in it
abbrev pub empty_end : LineEnd
empty_end = record { digits = 0; is_value = false }

-- a byte behind which the value of a number may begin: `=`, and spaces and signs between it and the value
abbrev pub begins_value : LineEnd → ℕ → Bool
begins_value end byte =
    byte == 61 || ((end.is_value && end.digits == 0) && ((byte == 32 || byte == 43) || byte == 45))

-- the end with a byte more
abbrev pub end_behind : LineEnd → ℕ → LineEnd
end_behind end byte =
    if is_ascii_hexdigit byte
    then record { digits = suc end.digits; is_value = end.is_value && is_ascii_digit byte }
    else record { digits = 0; is_value = begins_value end byte }

abbrev pub ends_at : LineEnd → List ℕ → LineEnd
ends_at end [] = end
ends_at end (byte ∷ text) = ends_at (end_behind end byte) text

-- ---- what is hidden

-- it has fewer than 12 hexadecimal digits in a row, or the value of a number: at most 19 decimal ones
abbrev pub may_be_shown : LineEnd → Bool
may_be_shown end = nat_lt end.digits 12 || (end.is_value && nat_le end.digits 19)

abbrev pub hides_behind : LineEnd → List ℕ → Bool
hides_behind end [] = true
hides_behind end (byte ∷ text) = may_be_shown (end_behind end byte) && hides_behind (end_behind end byte) text

-- nowhere in the line stand 12 hexadecimal digits in a row, but the value of a number
abbrev pub hides : List ℕ → Bool
hides line = hides_behind empty_end line

-- a line below a fault: characters of ASCII that print, or spaces, of which none shows a key
pub record IsDetail (line : List ℕ) : Type 0 where
  pub prints : list_all is_printing line ≡ true
  pub hidden : hides line ≡ true

-- ---- what is shown

-- a byte as it is shown
abbrev pub printed : ℕ → ℕ
printed byte = if is_printing byte then byte else 63

-- a line to which more is added, and whether digits that come next belong to some that are hidden
pub record Detail : Type 0 where
  pub text : List ℕ
  pub is_hiding : Bool

-- the most bytes that are kept of a line while it is made
abbrev pub detail_room : ℕ
detail_room = 179

-- one that goes on with whatever comes
abbrev pub shown_line : List ℕ → Detail
shown_line text = record { text = text; is_hiding = false }

-- where nothing has to be hidden, and there is room, a byte is added as it is
abbrev pub AddsByte : Detail → ℕ → Detail → Type 0
AddsByte old byte new =
    old.is_hiding ≡ false → may_be_shown (end_behind (ends_at empty_end old.text) byte) ≡ true →
    length old.text < detail_room → new ≡ shown_line (old.text ++ byte ∷ [])

-- and so is a text
pub record Adds (old : Detail) (text : List ℕ) (new : Detail) : Type 0 where
  pub as_is : old.is_hiding ≡ false → hides (old.text ++ map printed text) ≡ true →
      length old.text + length text ≤ detail_room → new ≡ shown_line (old.text ++ map printed text)
