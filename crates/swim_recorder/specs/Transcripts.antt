-- What is written of a life's journal.
use Rattle.std.specs.Prelude.{◌≡◌, ℕ, Bool, true, false, List, Option, Some, None}
use Rattle.swim_text.specs.Streams.{Puts}
use Rattle.swim_node.specs.Cells.{Filing}
use Rattle.swim_journal.specs.Journals.{calls_text, AreReadBack}
use Rattle.swim_recorder.specs.declared.transcripts.Transcript.{Transcript}

-- behind this page, the text of the calls that were read, which reads back; or where the sink failed, a front of it.
-- Where it had failed before, nothing was written
pub record HasWritten (page now : Option (List ℕ)) (was : Bool) (read : List Filing) (whole : Bool) : Type 0 where
  pub text : Puts page now (calls_text read) whole
  pub back : whole ≡ true → AreReadBack read
  pub cut : was ≡ false → (whole ≡ false) × (now ≡ page)

-- the same of a life whose journal is written, or isn't
abbrev pub AreWritten : {W : Type 0} → (W → Option (List ℕ)) → List Filing → Option (Transcript W) →
    Option (Transcript W) → Type 0
AreWritten written read None None = Unit {0}
AreWritten written read None (Some now) = ⊥
AreWritten written read (Some start) None = ⊥
AreWritten written read (Some start) (Some now) =
    HasWritten (written start.sink) (written now.sink) start.is_whole read now.is_whole

-- nothing is held back of what was written whole
abbrev pub AllSent : {W : Type 0} → (W → ℕ) → Option (Transcript W) → Type 0
AllSent held None = Unit {0}
AllSent held (Some now) = now.is_whole ≡ true → held now.sink ≡ 0
