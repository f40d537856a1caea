-- The files of the lives' journals, as a shelf takes them back.
use Rattle.std.specs.Prelude.{◌≡◌, ℕ, Bool, true, List, [], ◌∷◌, Option, Some, None}
use Rattle.swim_trail.specs.Growing.{Grows}
use Rattle.swim_journal.specs.Comments.{without_comments}

-- a file that was taken back: the number of its life; what its sink was given, and the bytes that were handed on to be
-- written for it, where those are known; and whether the file is kept for good
pub record Filed : Type 0 where
  pub number : ℕ
  pub text : Option (List ℕ)
  pub bytes : Option (List ℕ)
  pub is_kept : Bool

-- the bytes are the text but for comments, where both are known
abbrev pub HoldText : Option (List ℕ) → Option (List ℕ) → Type 0
HoldText None text = Unit {0}
HoldText (Some bytes) None = Unit {0}
HoldText (Some bytes) (Some text) = without_comments bytes ≡ without_comments text

-- a file was taken back, with its bytes; if it is kept, they are what its sink was given, but for comments
pub record IsTakenBack (number : ℕ) (text : Option (List ℕ)) (is_kept : Bool) (old new : Option (List Filed)) :
    Type 0 where
  pub bytes : Option (List ℕ)
  pub grows : Grows old new (record { number = number; text = text; bytes = bytes; is_kept = is_kept } ∷ [])
  pub holds : is_kept ≡ true → HoldText bytes text

-- ---- a law

-- of files that aren't known
pub unknown_back : (number : ℕ) (text : Option (List ℕ)) (is_kept : Bool) → IsTakenBack number text is_kept None None
unknown_back number text is_kept = record { bytes = None; grows = tt; holds = λ kept. tt }
