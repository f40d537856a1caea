-- What is told of the end of a command.
use Rattle.std.specs.Prelude.{◌≡◌, ℕ, Bool, List, ◌++◌, Option}
use Rattle.swim_text.specs.Streams.{Puts, failures_if}
use Rattle.swim_config.specs.Causes.{AreIndented}
use Rattle.swim_outcomes.specs.declared.outcomes.Outcome.{Outcome}
use Rattle.swim_outcomes.specs.Details.{Explains}
use Rattle.swim_outcomes.specs.Outcomes.{outcome_text, status_of}

-- an outcome was told on standard error, with details below it, as far as it took the text, and by the status; failed
-- writes and a failed flush were counted. The details are lines that begin with two spaces, and of a refused
-- configuration its cause
pub record Told (outcome : Outcome) (old new : Option (List ℕ)) (failed_old failed_new : ℕ) (status : ℕ) : Type 0 where
  pub details : List ℕ
  pub indented : AreIndented details
  pub explains : Explains outcome details
  pub done : Bool
  pub put : Puts old new (outcome_text outcome ++ details) done
  pub sent : Bool
  pub failed : failed_new ≡ failures_if (failures_if failed_old done) sent
  pub is : status ≡ status_of outcome
