-- How many bytes of a script are read.
use Rattle.std.specs.Prelude.{◌≡◌, ℕ, ◌+◌, List, [], reverse, Option, Some, None}
use Rattle.swim_text.specs.Lines.{pieces}
use Rattle.swim_text.specs.Reads.{IsReadWithin}
use Rattle.swim_script.specs.Forms.{form_of, most_bytes}

-- no more than one byte behind the most that a script of its form may have, where the bytes are known
abbrev pub ReadsKnown : Option (List ℕ) → Option (List ℕ) → Type 0
ReadsKnown None left = Unit {0}
ReadsKnown (Some script) None = ⊥
ReadsKnown (Some script) (Some left) =
    IsReadWithin (most_bytes (form_of (reverse (pieces script))) + 1) script left

-- nothing of the script is left, where its bytes are known
abbrev pub IsReadWhole : Option (List ℕ) → Option (List ℕ) → Type 0
IsReadWhole None left = Unit {0}
IsReadWhole (Some script) None = ⊥
IsReadWhole (Some script) (Some left) = left ≡ []
