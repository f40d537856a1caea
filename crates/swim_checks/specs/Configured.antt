-- The configuration in a file.
use Rattle.std.specs.Prelude.{◌≡◌, ℕ, List, [], ◌∷◌, Option, Ok, Err}
use Rattle.swim_config.specs.declared.config.Config.{Config}
use Rattle.swim_config.specs.Configuration.{config_of}
use Rattle.swim_config.specs.Reading.{OrNoMemory}
use Rattle.swim_outcomes.specs.declared.outcomes.Outcome.{Outcome}
use Rattle.swim_outcomes.specs.declared.outcomes.Outcome.TheVariants.{Unread, Refused}
use Rattle.swim_trail.specs.Growing.{Grows}
use Rattle.swim_writer.specs.Documents.{Document, document}

-- the file at this path was read, and nothing else; this was its text, and this is the configuration that it is
abbrev pub IsWritten : List ℕ → List ℕ → Option (List Document) → Option (List Document) → Config → Type 0
IsWritten path text old new config = Grows old new (document path text ∷ []) × (config_of text ≡ Ok config)

abbrev pub IsConfiguration : List ℕ → Option (List Document) → Option (List Document) → Config → Type 0
IsConfiguration path old new config = (text : List ℕ) × IsWritten path text old new config

-- why there is none: the file at this path couldn't be read; or it was, and its text has this fault, or memory was
-- refused
abbrev pub IsNoConfiguration : List ℕ → Option (List Document) → Option (List Document) → Outcome → Type 0
IsNoConfiguration path old new Unread = new ≡ old
IsNoConfiguration path old new (Refused fault) =
    (text : List ℕ) × Grows old new (document path text ∷ []) × OrNoMemory {A = Config} (Err fault) (config_of text)
IsNoConfiguration path old new outcome = ⊥
