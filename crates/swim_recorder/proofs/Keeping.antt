-- What was read since a start, step by step.
use Rattle.std.proofs.Common.{◌≡◌, ℕ, List, [], Option, subst, sym}
use Rattle.swim_history.specs.Setting.{Setting}
use Rattle.swim_node.specs.Cells.{Filing}
use Rattle.swim_recorder.specs.Recording.{AtRecorder, IsRecording, Keeps, TellsAll}
use Rattle.swim_recorder.specs.Transcripts.{AreWritten}

pub keeps_none : {W : Type 0} (written : W → Option (List ℕ)) (now : AtRecorder W) (read : List Filing) →
    Keeps written now read now read
keeps_none written now read = λ number o start is. is

-- the calls that were read are these
pub keeps_as : {W : Type 0} (written : W → Option (List ℕ)) (old new : AtRecorder W) (read more all : List Filing) →
    more ≡ all → Keeps written old read new more → Keeps written old read new all
keeps_as written old new read more all same keeps =
    λ number o start is.
    subst (λ (l : List Filing). IsRecording written number o l start new) same (keeps number o start is)

-- one step, and then another
pub keeps_both : {W : Type 0} (written : W → Option (List ℕ)) (old mid new : AtRecorder W)
    (read more all : List Filing) → Keeps written old read mid more → Keeps written mid more new all →
    Keeps written old read new all
keeps_both written old mid new read more all first then_so =
    λ number o start is. then_so number o start (first number o start is)

-- a life begins: nothing of it was read
pub begun : {W : Type 0} (written : W → Option (List ℕ)) (number : ℕ) (o opening : Setting) (read : List Filing)
    (start now : AtRecorder W) → opening ≡ o → read ≡ [] →
    AreWritten written [] start.transcript now.transcript →
    TellsAll number opening start.gallery start.heard [] now.watching now.gallery now.heard →
    IsRecording written number o read start now
begun written number o opening read start now same none writes tells =
    subst (λ (s : Setting). IsRecording written number s read start now) same
    (subst (λ (l : List Filing). IsRecording written number opening l start now) (sym none)
    (record { writes = writes; tells = tells }))
