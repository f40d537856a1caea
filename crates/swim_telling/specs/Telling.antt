-- What is written of a text that people are told.
use Rattle.std.specs.Prelude.{◌≡◌, ℕ, Bool, List, Option}
use Rattle.swim_text.specs.Streams.{Puts, failures_if}

-- what was written to a sink, where that is known, and how many of its writes and flushes failed
abbrev pub Written : Type 0
Written = Option (List ℕ) × ℕ

-- a text was written, as far as it was taken; a failed write and a failed flush were counted
pub record TellsText (text : List ℕ) (old new : Written) : Type 0 where
  pub done : Bool
  pub put : Puts old.0 new.0 text done
  pub sent : Bool
  pub failed : new.1 ≡ failures_if (failures_if old.1 done) sent
