-- What a line gives.
use Rattle.std.specs.Prelude.{ℕ, ◌≤◌, List, length}
use Rattle.swim_work.specs.declared.lines.Got.{Got}
use Rattle.swim_work.specs.declared.lines.Got.TheVariants.{Datagram}

-- what it gave, and what stood in the buffer then
pub record Received : Type 0 where
  pub got : Got
  pub bytes : List ℕ

-- a datagram is not longer than the buffer that it was put into
abbrev pub FitsInto : Got → List ℕ → Type 0
FitsInto (Datagram count source) bytes = count ≤ length bytes
FitsInto got bytes = Unit {0}
