-- What is left to stand below the line of a check's outcome.
use Rattle.std.proofs.Common.{ℕ, List, Option, subst}
use Rattle.swim_config.specs.declared.config.Config.{Config}
use Rattle.swim_telling.specs.Telling.{Written}
use Rattle.swim_outcomes.specs.declared.outcomes.Outcome.{Outcome}
use Rattle.swim_outcomes.specs.Details.{Explains}
use Rattle.swim_outcomes.specs.Explaining.{explains_if}
use Rattle.swim_checks.specs.Checking.{Shows}

-- a configuration was shown
pub shown_explains : (config : Config) (old new : Option (List ℕ)) (faults then : Written) (outcome : Outcome)
    (details : List ℕ) →
    Shows config old new faults then outcome → Explains outcome details
shown_explains config old new faults then outcome details shows =
    explains_if outcome details (λ fault is. absurd (subst (Shows config old new faults then) is shows))
