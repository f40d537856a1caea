-- What lines of events are heard, and when.
use Rattle.std.specs.Prelude.{◌≡◌, ℕ, List, ◌++◌, Option, Some, None}

-- a line that was heard, or that none will come; what had been written when it was waited for, where that is known, and
-- how many bytes of that weren't handed on
pub record Hearing : Type 0 where
  pub line : Option (List ℕ)
  pub written : Option (List ℕ)
  pub held : ℕ
