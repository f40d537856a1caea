-- What is left of a script that was played to its end.
use Rattle.std.specs.Prelude.{◌≡◌, ℕ, List, reverse, Option, Some, None, Result, Ok, Err}
use Rattle.std.specs.Io.KnownBytes.{Appends}
use Rattle.swim_text.specs.Lines.{pieces}
use Rattle.swim_history.specs.declared.entries.Entry.{Entry}
use Rattle.swim_history.specs.Storing.Written.{Written}
use Rattle.swim_detector.specs.Recording.{Recording}
use Rattle.swim_script.specs.declared.choosers.Drawer.{Drawer}
use Rattle.swim_script.specs.declared.faults.ScriptFault.{ScriptFault}
use Rattle.swim_script.specs.Headers.{nothing_told}
use Rattle.swim_script.specs.Script.{Turn, lines_of}
use Rattle.swim_script.specs.Holds.{Played, Holds}

-- the session of which no line was read
abbrev pub unplayed : Played
unplayed = record { lines = 0; header = nothing_told; recorded = None }

-- the session is where the lines of the script lead: its journal is a run of their calls, all but those that were
-- refused, and the text that tells this run is what was written
pub record IsEndOf (script : List ℕ) (old new : Option (List ℕ)) (s : Played) : Type 0 where
  pub turns : List Turn
  pub are : lines_of turns ≡ reverse (pieces script)
  pub run : List Entry
  pub text : List ℕ
  pub holds : Holds turns run text s
  pub written : Appends old new text

-- the same of a script without a fault, where its bytes are known
abbrev pub LeavesKnown : Result (Unit {0}) ScriptFault → Option (List ℕ) → Option (List ℕ) → Option (List ℕ) → Played →
    Type 0
LeavesKnown (Err fault) script old new s = Unit {0}
LeavesKnown (Ok done) None old new s = Unit {0}
LeavesKnown (Ok done) (Some script) old new s = IsEndOf script old new s

-- the journal of a recorder, if there is one
abbrev pub IsJournalOf : Option (Recording Drawer) → Option Written → Type 0
IsJournalOf None None = Unit {0}
IsJournalOf (Some recorded) (Some journal) =
    (journal.opening ≡ recorded.opening) × (journal.past ≡ recorded.past)
IsJournalOf recorded journal = ⊥
