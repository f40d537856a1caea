-- What checking a configuration does.
use Rattle.std.specs.Prelude.{◌≡◌, ℕ, ◌<◌, ◌≤◌, Bool, true, false, List, length, Option, Some, None, Ok, Err, codes}
use Rattle.std.specs.Io.KnownBytes.{Appends}
use Rattle.swim_text.specs.Streams.{PutsFront}
use Rattle.swim_telling.specs.Telling.{TellsText, Written}
use Rattle.swim_config.specs.declared.config.Config.{Config}
use Rattle.swim_config.specs.declared.config_fault.ConfigFault.{ConfigFault}
use Rattle.swim_config.specs.declared.config_fault.ConfigFault.TheVariants.{Size}
use Rattle.swim_outcomes.specs.declared.outcomes.Outcome.{Outcome}
use Rattle.swim_outcomes.specs.declared.outcomes.Outcome.TheVariants.{Checked, Unread, Refused, Unwritten}
use Rattle.swim_config.specs.Configuration.{config_of}
use Rattle.swim_config.specs.Inputs.{IsReading}
use Rattle.swim_config.specs.Reading.{OrNoMemory}
use Rattle.swim_config.specs.Summary.{summary_text}
use Rattle.swim_config.specs.Warnings.{warnings_text}

-- the warnings of a configuration were written on standard error, as far as it took them
abbrev pub Warned : Config → Written → Written → Type 0
Warned config old new = TellsText (warnings_text config) old new

-- the summary was written, and then the warnings; or a front of the summary, and nothing else
abbrev pub Shows : Config → Option (List ℕ) → Option (List ℕ) → Written → Written → Outcome → Type 0
Shows config old new faults_old faults_new Checked =
    Appends old new (summary_text config) × Warned config faults_old faults_new
Shows config old new faults_old faults_new Unwritten =
    PutsFront old new (summary_text config) × (faults_new ≡ faults_old)
Shows config old new faults_old faults_new outcome = ⊥

-- the configuration that the text is was shown
pub record IsShown (text : List ℕ) (old new : Option (List ℕ)) (faults_old faults_new : Written) (outcome : Outcome)
    : Type 0 where
  pub config : Config
  pub is : config_of text ≡ Ok config
  pub shows : Shows config old new faults_old faults_new outcome

-- nothing was written; the fault is the text's, or memory was refused, but for a text that is too large
pub record IsRefused (text : List ℕ) (old new : Option (List ℕ)) (faults_old faults_new : Written) (fault : ConfigFault)
    : Type 0 where
  pub kept : (new ≡ old) × (faults_new ≡ faults_old)
  pub is : OrNoMemory {A = Config} (Err fault) (config_of text)
  pub size : 65536 < length text → fault ≡ Size

abbrev pub Checks : List ℕ → Option (List ℕ) → Option (List ℕ) → Written → Written → Outcome → Type 0
Checks text old new faults_old faults_new Checked = IsShown text old new faults_old faults_new Checked
Checks text old new faults_old faults_new Unwritten = IsShown text old new faults_old faults_new Unwritten
Checks text old new faults_old faults_new (Refused fault) = IsRefused text old new faults_old faults_new fault
Checks text old new faults_old faults_new Unread = (new ≡ old) × (faults_new ≡ faults_old)
Checks text old new faults_old faults_new outcome = ⊥

-- a check may end so
abbrev pub IsEndOfCheck : Outcome → Type 0
IsEndOfCheck Checked = Unit {0}
IsEndOfCheck Unread = Unit {0}
IsEndOfCheck (Refused fault) = Unit {0}
IsEndOfCheck Unwritten = Unit {0}
IsEndOfCheck outcome = ⊥

-- the same of a reader whose bytes are known
abbrev pub ChecksKnown : Option (List ℕ) → Option (List ℕ) → Option (List ℕ) → Written → Written → Outcome → Type 0
ChecksKnown (Some text) old new faults_old faults_new outcome = Checks text old new faults_old faults_new outcome
ChecksKnown None old new faults_old faults_new outcome = IsEndOfCheck outcome

-- so many bytes were taken of a configuration, and no others: one more than it may have, at the most
abbrev pub TakesInput : Option (List ℕ) → Option (List ℕ) → Type 0
TakesInput old new = (text : List ℕ) × IsReading old new text × (length text ≤ 65537)

abbrev pub is_unread : Outcome → Bool
is_unread Unread = true
is_unread outcome = false

abbrev pub is_unwritten : Outcome → Bool
is_unwritten Unwritten = true
is_unwritten outcome = false

-- people were told that a configuration is waited for, as far as standard error took it
abbrev pub waits_text : List ℕ
waits_text =
    codes "swimd waits for a configuration on standard input, up to its end; swimd --help tells its commands\n"

abbrev pub Prompts : Bool → Written → Written → Type 0
Prompts true old new = TellsText waits_text old new
Prompts false old new = new ≡ old

-- standard input was checked, and before that people who type it were told so
abbrev pub ChecksTyped : Bool → Option (List ℕ) → Option (List ℕ) → Option (List ℕ) → Written → Written → Outcome →
    Type 0
ChecksTyped is_prompted left old new faults_old faults_new outcome =
    (between : Written) × Prompts is_prompted faults_old between × ChecksKnown left old new between faults_new outcome
