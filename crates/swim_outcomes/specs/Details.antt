-- What stands below the line that tells how a command of the program ended.
use Rattle.std.specs.Prelude.{◌≡◌, ◌⊎◌, ℕ, List, []}
use Rattle.swim_config.specs.Causes.{IsCause}
use Rattle.swim_config.specs.declared.config_fault.ConfigFault.{ConfigFault}
use Rattle.swim_outcomes.specs.declared.outcomes.Outcome.{Outcome}
use Rattle.swim_outcomes.specs.declared.outcomes.Outcome.TheVariants.{Refused}

-- the cause of a fault, or nothing where memory was refused
abbrev pub IsExplained : ConfigFault → List ℕ → Type 0
IsExplained fault details = (details ≡ []) ⊎ IsCause fault details

-- of a configuration that was refused its cause; of any other outcome whatever a person needs
abbrev pub Explains : Outcome → List ℕ → Type 0
Explains (Refused fault) details = IsExplained fault details
Explains outcome details = Unit {0}
