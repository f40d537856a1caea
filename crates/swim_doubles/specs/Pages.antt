-- What contracts see of a sink in memory that fails where a test wants it to.
use Rattle.std.specs.Prelude.{ℕ, List, Option}

-- the bytes written, the puts and the flushes before the one that fails, and how many failed
pub record FailingPageState : Type 0 where
  pub text : List ℕ
  pub put_fails_in : Option ℕ
  pub flush_fails_in : Option ℕ
  pub failures : ℕ
