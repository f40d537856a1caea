-- Calls that are counted down to the one that fails.
use Rattle.std.specs.Prelude.{ℕ, Option, Some, None}
use Rattle.std.proofs.Common.{zero, suc}

-- the calls before the one that fails, a call later; it fails once
abbrev pub counted_down : Option ℕ → Option ℕ
counted_down None = None
counted_down (Some zero) = None
counted_down (Some (suc n)) = Some n
