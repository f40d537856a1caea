-- What checking the configuration in a file does.
use Rattle.std.specs.Prelude.{◌≡◌, ◌⊎◌, ℕ, List, Option}
use Rattle.swim_config.specs.declared.config.Config.{Config}
use Rattle.swim_telling.specs.Telling.{Written}
use Rattle.swim_outcomes.specs.declared.outcomes.Outcome.{Outcome}
use Rattle.swim_checks.specs.Checking.{Shows}
use Rattle.swim_checks.specs.Configured.{IsConfiguration, IsNoConfiguration}
use Rattle.swim_writer.specs.Documents.{Document}

-- the configuration in the file at this path was shown; or there is none, and nothing was written
abbrev pub ChecksFile : List ℕ → Option (List Document) → Option (List Document) → Option (List ℕ) → Option (List ℕ) →
    Written → Written → Outcome → Type 0
ChecksFile path read_old read_new old new faults_old faults_new outcome =
    (IsNoConfiguration path read_old read_new outcome × (new ≡ old) × (faults_new ≡ faults_old))
    ⊎ ((config : Config) × IsConfiguration path read_old read_new config
    × Shows config old new faults_old faults_new outcome)
