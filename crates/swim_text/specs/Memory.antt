-- What contracts see of a sink in memory.
use Rattle.std.specs.Prelude.{ℕ, List}

-- the bytes written, and how many puts failed
pub record PageState : Type 0 where
  pub text : List ℕ
  pub failures : ℕ
