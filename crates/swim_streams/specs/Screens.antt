-- What a terminal gets of a text.
use Rattle.std.specs.Prelude.{ℕ, Bool, true, false, ◌==◌, ◌||◌, if◌then◌else◌, List, Option, None}
use Rattle.swim_config.specs.Configuration.{is_printing}

-- a byte that prints, or ends a line
abbrev pub is_shown : ℕ → Bool
is_shown byte = byte == 10 || is_printing byte

-- each other byte is a question mark
abbrev pub shown : ℕ → ℕ
shown byte = if is_shown byte then byte else 63

-- what is known of what was written, where a terminal is at the end or is not
abbrev pub known : Bool → Option (List ℕ) → Option (List ℕ)
known true written = None
known false written = written
