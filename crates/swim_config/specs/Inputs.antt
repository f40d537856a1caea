-- What was read of the bytes that a source has.
use Rattle.std.specs.Prelude.{◌≡◌, ℕ, Bool, true, false, List, ◌++◌, take, Option, Some, None}

-- where no read failed: all bytes, or the first 65,537 of them
abbrev pub IsRead : Option (List ℕ) → List ℕ → Bool → Type 0
IsRead None items done = Unit {0}
IsRead (Some bytes) items true = items ≡ take 65537 bytes
IsRead (Some bytes) items false = Unit {0}

-- so many were read, and these are left
abbrev pub IsReading : Option (List ℕ) → Option (List ℕ) → List ℕ → Type 0
IsReading None left items = Unit {0}
IsReading (Some bytes) None items = ⊥
IsReading (Some bytes) (Some rest) items = bytes ≡ items ++ rest
