-- What is made of the calls of a life, as they are read.
use Rattle.std.specs.Prelude.{◌≡◌, ℕ, List, Option}
use Rattle.swim_history.specs.declared.entries.Entry.{Entry}
use Rattle.swim_history.specs.Run.{IsRun}
use Rattle.swim_history.specs.Setting.{Setting, IsSetting}
use Rattle.swim_node.specs.Cells.{Filing}
use Rattle.swim_node.specs.Following.{filings_of}
use Rattle.swim_events.specs.Guests.{AtGuest}
use Rattle.swim_events.specs.Watching.{Known, known}
use Rattle.swim_recorder.specs.declared.journal_recorder.JournalRecorder.{JournalRecorder}
use Rattle.swim_recorder.specs.declared.transcripts.Transcript.{Transcript}
use Rattle.swim_recorder.specs.Reports.{Report, HasHeardOf}
use Rattle.swim_recorder.specs.Transcripts.{AllSent, AreWritten}
use Rattle.swim_recorder.specs.Watched.{AreToldLife, IsCourse, lived}

-- of a life of this number with this history: what is known is the history's, those who watched when it began are told
-- it, and whoever has come since, and the reporter has heard of its calls
pub record Tells (number : ℕ) (o : Setting) (h : List Entry) (guests : List AtGuest) (heard : Option (List Report))
    (w : Known) (now : List AtGuest) (hears : Option (List Report)) : Type 0 where
  pub knows : w ≡ known o h
  pub told : AreToldLife number o guests h now
  pub course : IsCourse (lived number o h) guests now
  pub reported : HasHeardOf o h heard hears

-- the same of each history with the calls that were read
abbrev pub TellsAll : ℕ → Setting → List AtGuest → Option (List Report) → List Filing → Known → List AtGuest →
    Option (List Report) → Type 0
TellsAll number o guests heard read w now hears =
    (h : List Entry) → IsSetting o → IsRun o h → filings_of h ≡ read → Tells number o h guests heard w now hears

-- what was told of a life is told of it still
abbrev pub StillTells : Known → List AtGuest → List AtGuest → Type 0
StillTells w old new =
    (number : ℕ) (o : Setting) (guests : List AtGuest) (heard hears : Option (List Report)) (read : List Filing) →
    TellsAll number o guests heard read w old hears → TellsAll number o guests heard read w new hears

-- what a contract compares of a recorder: what it writes, what it knows, those who watch, and what its reporter heard
pub record AtRecorder (W : Type 0) : Type 0 where
  pub transcript : Option (Transcript W)
  pub watching : Known
  pub gallery : List AtGuest
  pub heard : Option (List Report)

abbrev pub at_recorder : {W Q E I Y : Type 0} → (Y → Option (List Report)) → JournalRecorder W Q E I Y → AtRecorder W
at_recorder heard r =
    record { transcript = r.transcript; watching = r.watching; gallery = r.gallery; heard = heard r.reporter }

-- of the life of this number these calls were read, since it began so: their text was written, those who watch were
-- told what they change, and the reporter heard of each
pub record IsRecording {W : Type 0} (written : W → Option (List ℕ)) (number : ℕ) (o : Setting) (read : List Filing)
    (start now : AtRecorder W) : Type 0 where
  pub writes : AreWritten written read start.transcript now.transcript
  pub tells : TellsAll number o start.gallery start.heard read now.watching now.gallery now.heard

-- the same, and what was written was handed on
pub record IsRecorded {W : Type 0} (written : W → Option (List ℕ)) (held : W → ℕ) (number : ℕ) (o : Setting)
    (read : List Filing) (start now : AtRecorder W) : Type 0 where
  pub records : IsRecording written number o read start now
  pub sent : AllSent held now.transcript

-- whatever start these calls were read since, these others were read since
abbrev pub Keeps : {W : Type 0} → (W → Option (List ℕ)) → AtRecorder W → List Filing → AtRecorder W → List Filing →
    Type 0
Keeps {W} written old read new more =
    (number : ℕ) (o : Setting) (start : AtRecorder W) → IsRecording written number o read start old →
    IsRecording written number o more start new
