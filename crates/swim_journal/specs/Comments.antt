-- The comments of a journal file, which are for people: lines behind its first that begin with `#`.
use Rattle.std.specs.Prelude.{◌≡◌, ◌⊎◌, ℕ, ◌≤◌, ◌==◌, Bool, true, false, List, [], ◌∷◌, ◌++◌, length, flat_map, reverse}
use Rattle.std.specs.Prelude.{if◌then◌else◌}
use Rattle.swim_text.specs.Lines.{pieces, bare, has_feed}

-- a line is a comment behind those before it, which stand newest first; the first line of a text is none
abbrev pub is_comment : List (List ℕ) → List ℕ → Bool
is_comment [] line = false
is_comment (last ∷ before) [] = false
is_comment (last ∷ before) (first ∷ others) = first == 35

-- lines without those that are comments
abbrev pub uncommented : List (List ℕ) → List (List ℕ)
uncommented [] = []
uncommented (line ∷ before) = if is_comment before line then uncommented before else line ∷ uncommented before

-- a text without its comments
abbrev pub without_comments : List ℕ → List ℕ
without_comments text = flat_map (λ line. line) (reverse (uncommented (reverse (pieces text))))

-- each comment among these lines is no longer than a line of a script may be
abbrev pub AreShort : List (List ℕ) → Type 0
AreShort [] = Unit {0}
AreShort (line ∷ before) = (is_comment before line ≡ true → length (bare line) ≤ 2048) × AreShort before

-- ---- written

-- one whole line that is a comment behind another line
pub record IsCommentLine (text : List ℕ) : Type 0 where
  pub words : List ℕ
  pub unfed : has_feed words ≡ false
  pub is : text ≡ 35 ∷ (words ++ 10 ∷ [])

-- nothing, or such a line
abbrev pub MayComment : List ℕ → Type 0
MayComment text = (text ≡ []) ⊎ IsCommentLine text

-- a text ends with a line feed
pub record EndsLine (text : List ℕ) : Type 0 where
  pub front : List ℕ
  pub is : text ≡ front ++ 10 ∷ []

-- a text is this other one with comments between its lines: whatever follows on both, without comments they are the
-- same
pub record IsCommented (text plain : List ℕ) : Type 0 where
  pub same : (rest : List ℕ) → without_comments (text ++ rest) ≡ without_comments (plain ++ rest)
