-- The journal file of a life.
use Rattle.std.specs.Prelude.{◌≡◌, ℕ, Bool, true, List, Option}
use Rattle.swim_text.specs.Streams.{Puts}
use Rattle.swim_history.specs.declared.entries.Entry.{Entry}
use Rattle.swim_history.specs.Setting.{Setting}
use Rattle.swim_journal.specs.Headings.{header_text}
use Rattle.swim_journal.specs.Replays.{file_text, IsJournalFile}

-- the file of a life of this number, with journals of so many entries and draws of this seed: its header and its calls;
-- or where it isn't whole, a front of them. Whole it is a journal file, which is played back as the life's run
pub record IsLifeFile (fresh now : Option (List ℕ)) (opening : Setting) (limit : ℕ) (seed : List ℕ) (number : ℕ)
    (past : List Entry) (whole : Bool) : Type 0 where
  pub text : Puts fresh now (file_text (header_text opening limit seed number) past) whole
  pub file : whole ≡ true → IsJournalFile (header_text opening limit seed number) past
