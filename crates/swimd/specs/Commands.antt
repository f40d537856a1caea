-- What a command of the program does.
use Rattle.std.specs.Prelude.{◌≡◌, ◌⊎◌, ℕ, not, List, Option, Some, None, codes}
use Rattle.swim_text.specs.Streams.{failures_if}
use Rattle.swim_telling.specs.Telling.{Written}
use Rattle.swim_config.specs.declared.config_fault.ConfigFault.TheVariants.{NoMemory}
use Rattle.swim_commands.specs.declared.forms.Form.{Form}
use Rattle.swim_outcomes.specs.declared.outcomes.Outcome.{Outcome}
use Rattle.swim_outcomes.specs.declared.outcomes.Outcome.TheVariants.{Usage, Refused}
use Rattle.swim_commands.specs.Asking.{Asks}
use Rattle.swim_checks.specs.CheckedFiles.{ChecksFile}
use Rattle.swim_checks.specs.Checking.{ChecksTyped, is_unwritten}
use Rattle.swim_checks.specs.Keys.{MakesKey}
use Rattle.swim_checks.specs.Texts.{Helps}
use Rattle.swimd.specs.Daemon.{Runs}
use Rattle.swim_outcomes.specs.Told.{Told}
use Rattle.swimd.specs.Served.{ServesWeb}
use Rattle.swim_commands.specs.Watched.{WatchesDaemon}
use Rattle.swim_commands.specs.Words.{Wanted, Check, CheckFile, Run, Ask, Watch, Web, MakeKey, Help, Version}
use Rattle.swim_writer.specs.Documents.{Document}

-- the daemon at a path was asked: the line that the words make, and standard input was let be, or the lines of that;
-- its answers were written in this form
abbrev pub AsksWanted : Form → Option (List ℕ) → Option (List ℕ) → Option (List ℕ) → Option (List ℕ) →
    Option (List ℕ) → Outcome → Type 0
AsksWanted form None left_old left_new old new outcome = Asks form left_old left_new old new outcome
AsksWanted form (Some line) left_old left_new old new outcome =
    (left_new ≡ left_old) × ((rest : Option (List ℕ)) × Asks form (Some line) rest old new outcome)

-- what a command found of the streams and what it left: of standard input, on standard output and on standard error;
-- and the files that were read by their paths
pub record Streams : Type 0 where
  pub left : Option (List ℕ)
  pub read : Option (List Document)
  pub written : Written
  pub faults : Written

-- nothing was read, and nothing written on standard error
abbrev pub LetsBe : Streams → Streams → Type 0
LetsBe old new = (new.left ≡ old.left) × (new.read ≡ old.read) × (new.faults ≡ old.faults)

-- what is done where the words ask this, and how it ends
abbrev pub DoesWanted : Option Wanted → Streams → Streams → Outcome → Type 0
DoesWanted None old new outcome = (outcome ≡ Usage) × (new ≡ old)
DoesWanted (Some (Check is_prompted)) old new outcome =
    ChecksTyped is_prompted old.left old.written.0 new.written.0 old.faults new.faults outcome
    × (new.written.1 ≡ failures_if old.written.1 (not (is_unwritten outcome))) × (new.read ≡ old.read)
DoesWanted (Some (CheckFile file)) old new outcome =
    ChecksFile file old.read new.read old.written.0 new.written.0 old.faults new.faults outcome
    × (new.written.1 ≡ failures_if old.written.1 (not (is_unwritten outcome))) × (new.left ≡ old.left)
DoesWanted (Some (Run file is_quiet)) old new outcome =
    (new.left ≡ old.left) × Runs file old.read new.read old.written new.written old.faults new.faults outcome
DoesWanted (Some (Ask path line seconds form)) old new outcome =
    AsksWanted form line old.left new.left old.written.0 new.written.0 outcome × (new.read ≡ old.read)
    × (new.faults ≡ old.faults)
DoesWanted (Some (Watch path is_json)) old new outcome =
    WatchesDaemon is_json old.written.0 new.written.0 outcome × LetsBe old new
DoesWanted (Some (Web listen control events journals names)) old new outcome =
    ServesWeb old.faults new.faults outcome × (new.left ≡ old.left) × (new.read ≡ old.read)
    × (new.written ≡ old.written)
DoesWanted (Some Help) old new outcome =
    ((text : List ℕ) × Helps text old.written.0 new.written.0 outcome) × LetsBe old new
DoesWanted (Some MakeKey) old new outcome = MakesKey old.written.0 new.written.0 outcome × LetsBe old new
DoesWanted (Some Version) old new outcome =
    Helps (codes "swimd 1.0\n") old.written.0 new.written.0 outcome × LetsBe old new

-- what the words ask was done
pub record Does (asks : Option Wanted → Type 0) (old new : Streams) (outcome : Outcome) : Type 0 where
  pub wanted : Option Wanted
  pub asked : asks wanted
  pub done : DoesWanted wanted old new outcome

-- memory may be refused before anything is done
abbrev pub IsShort : Streams → Streams → Outcome → Type 0
IsShort old new outcome = (outcome ≡ Refused NoMemory) × (new ≡ old)

-- what the words ask was done, but for that
abbrev pub Carried : (Option Wanted → Type 0) → Streams → Streams → Outcome → Type 0
Carried asks old new outcome = Does asks old new outcome ⊎ IsShort old new outcome

-- what the words ask was done; and behind what stood on standard error then was told how it ended
pub record Commanded (asks : Option Wanted → Type 0) (old new : Streams) (status : ℕ) : Type 0 where
  pub outcome : Outcome
  pub then : Streams
  pub done : Carried asks old then outcome
  pub left : new.left ≡ then.left
  pub read : new.read ≡ then.read
  pub written : new.written ≡ then.written
  pub told : Told outcome then.faults.0 new.faults.0 then.faults.1 new.faults.1 status
