-- What becomes of a configuration file that is read again while its daemon runs.
use Rattle.std.specs.Prelude.{◌≡◌, ℕ, List, [], ◌∷◌, ◌++◌, Option, Ok, Err}
use Rattle.swim_outcomes.specs.declared.outcomes.Outcome.{Outcome}
use Rattle.swim_outcomes.specs.declared.outcomes.Outcome.TheVariants.{Refused, Unread}
use Rattle.swim_config.specs.declared.config.Config.{Config}
use Rattle.swim_config.specs.Reading.{OrNoMemory}
use Rattle.swim_reload.specs.Reloaded.{reloaded_text}
use Rattle.swim_reload.specs.Rereading.{configs_of}
use Rattle.swim_writer.specs.Documents.{Document, document}
use Rattle.swim_trail.specs.Growing.{Grows}

-- the file at this path was read, and nothing else: this is its configuration, and the line tells which keys need a
-- start, beside the configuration of the text at the start
pub record IsReloaded (path started : List ℕ) (old new : Option (List Document)) (config : Config) (line : List ℕ)
    : Type 0 where
  pub text : List ℕ
  pub read : Grows old new (document path text ∷ [])
  pub before : Config
  pub configs : configs_of started text ≡ Ok (before, config)
  pub told : line ≡ reloaded_text before config

-- why it isn't taken: it couldn't be read; or it was, and its text has this fault, or memory was refused
abbrev pub IsNotReloaded : List ℕ → List ℕ → Option (List Document) → Option (List Document) → Outcome → Type 0
IsNotReloaded path started old new Unread = new ≡ old
IsNotReloaded path started old new (Refused fault) =
    (text : List ℕ) × Grows old new (document path text ∷ [])
    × OrNoMemory {A = Config × Config} (Err fault) (configs_of started text)
IsNotReloaded path started old new outcome = ⊥

-- the text, or a front of it where it has no room
abbrev pub IsTextOrFront : List ℕ → List ℕ → Type 0
IsTextOrFront text line = (rest : List ℕ) × (text ≡ line ++ rest)
