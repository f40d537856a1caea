-- The files of the lives' journals, as a keeper has them opened and taken back.
use Rattle.std.specs.Prelude.{◌≡◌, ◌&&◌, ℕ, Bool, false, not, List, Option, Some, None}
use Rattle.swim_text.specs.Streams.{Puts}
use Rattle.swim_history.specs.Setting.{Setting}
use Rattle.swim_journal.specs.Headings.{header_text, IsTellable}
use Rattle.swim_recorder.specs.declared.transcripts.Transcript.{Transcript}
use Rattle.swim_recorder.specs.Filed.{Filed, IsTakenBack}
use Rattle.swim_crew.specs.declared.pasts.Terms.{Terms}

-- a new file was given the header of the life of this number
pub record HasHeader (fresh now : Option (List ℕ)) (terms : Terms) (life : ℕ) (o : Setting) (whole : Bool) :
    Type 0 where
  pub tellable : IsTellable o terms.limit terms.seed life
  pub header : Puts fresh now (header_text o terms.limit terms.seed life) whole

-- the journal of that life is written nowhere; or a file was opened for it, and given the header
abbrev pub IsBegun : {V : Type 0} → (V → Option (List ℕ)) → Option (List ℕ) → Terms → ℕ → Setting →
    Option (Transcript V) → Type 0
IsBegun written fresh terms life o None = Unit {0}
IsBegun written fresh terms life o (Some script) =
    HasHeader fresh (written script.sink) terms life o script.is_whole

-- the life has no file, and isn't told as cut; or its file was taken back, and it is told as cut unless all of its
-- journal was written, and the file is kept
abbrev pub IsPutBack : {V : Type 0} → (V → Option (List ℕ)) → ℕ → Option (Transcript V) → Option (List Filed) →
    Option (List Filed) → Bool → Type 0
IsPutBack written life None old new is_cut = (new ≡ old) × (is_cut ≡ false)
IsPutBack written life (Some script) old new is_cut =
    (is_kept : Bool) × IsTakenBack life (written script.sink) is_kept old new
    × (is_cut ≡ not (script.is_whole && is_kept))
