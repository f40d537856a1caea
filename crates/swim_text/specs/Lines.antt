-- Lines of a text, and what the reader of a line answers.
use Rattle.std.specs.Prelude.{◌≡◌, ℕ, ◌+◌, ◌<◌, ◌≤◌, ◌==◌, Bool, true, false, List, [], ◌∷◌, ◌++◌, length, Option, Some}
use Rattle.std.specs.Prelude.{None, if◌then◌else◌}
use Rattle.std.specs.List.{list_any, onto_first}
use Rattle.swim_text.specs.declared.lines.Taken.{Taken}
use Rattle.swim_text.specs.declared.lines.Taken.TheVariants.{Line, Long, Size, Over, Failed, Unsent}
use Rattle.swim_text.specs.Streams.{one_more}

-- the lines of a text, each with its line feed; what follows the last line feed is a line if it has a byte
abbrev pub pieces : List ℕ → List (List ℕ)
pieces [] = []
pieces (b ∷ rest) = if b == 10 then (b ∷ []) ∷ pieces rest else onto_first b (pieces rest)

-- a line without its line feed
abbrev pub bare : List ℕ → List ℕ
bare [] = []
bare (b ∷ rest) = if b == 10 then [] else b ∷ bare rest

-- there is a line feed among the bytes
abbrev pub has_feed : List ℕ → Bool
has_feed bytes = list_any (λ b. b == 10) bytes

-- the text begins with this line, which is no longer than the limit, and within the budget of bytes
pub record IsLine (text rest line : List ℕ) (limit budget after : ℕ) : Type 0 where
  pub piece : List ℕ
  pub whole : text ≡ piece ++ rest
  pub first : pieces text ≡ piece ∷ pieces rest
  pub bytes : bare piece ≡ line
  pub fits : length line ≤ limit
  pub spent : length piece + after ≡ budget

-- the text begins with a line that is longer than the limit, and within the budget of bytes
pub record IsLong (text rest : List ℕ) (limit budget after : ℕ) : Type 0 where
  pub piece : List ℕ
  pub whole : text ≡ piece ++ rest
  pub first : pieces text ≡ piece ∷ pieces rest
  pub long : limit < length (bare piece)
  pub spent : length piece + after ≡ budget

-- the text begins with a line that goes past the budget of bytes, of which one byte more was taken
pub record IsOversize (text rest : List ℕ) (budget : ℕ) : Type 0 where
  pub piece : List ℕ
  pub more : List (List ℕ)
  pub first : pieces text ≡ piece ∷ more
  pub over : budget < length piece
  pub taken : List ℕ
  pub whole : text ≡ taken ++ rest
  pub spent : length taken ≡ budget + 1

-- some bytes of the first line were taken, and not its line feed
pub record IsCutShort (text rest : List ℕ) (budget after : ℕ) : Type 0 where
  pub taken : List ℕ
  pub whole : text ≡ taken ++ rest
  pub within : has_feed taken ≡ false
  pub spent : length taken + after ≡ budget

-- what was taken of a text, of which the rest is left
abbrev pub Takes : Taken → List ℕ → List ℕ → List ℕ → ℕ → ℕ → ℕ → Type 0
Takes Line text rest line limit budget after = IsLine text rest line limit budget after
Takes Long text rest line limit budget after = IsLong text rest limit budget after
Takes Size text rest line limit budget after = IsOversize text rest budget
Takes Over text rest line limit budget after = (text ≡ []) × (rest ≡ []) × (after ≡ budget)
Takes Failed text rest line limit budget after = IsCutShort text rest budget after
Takes Unsent text rest line limit budget after = IsCutShort text rest budget after

-- the same of a reader's bytes, where they are known
abbrev pub TakesKnown : Option (List ℕ) → Option (List ℕ) → Taken → List ℕ → ℕ → ℕ → ℕ → Type 0
TakesKnown None new taken line limit budget after = Unit {0}
TakesKnown (Some text) None taken line limit budget after = ⊥
TakesKnown (Some text) (Some rest) taken line limit budget after = Takes taken text rest line limit budget after

-- what a line was that has ended
abbrev pub ended : Bool → Bool → Taken
ended true is_long = Over
ended false true = Long
ended false false = Line

-- the reader's failures, after a line was taken
abbrev pub failures_read : ℕ → Taken → ℕ
failures_read n Line = n
failures_read n Long = n
failures_read n Size = n
failures_read n Over = n
failures_read n Failed = one_more n
failures_read n Unsent = n

-- the writer's failures, after a line was taken
abbrev pub failures_sent : ℕ → Taken → ℕ
failures_sent n Line = n
failures_sent n Long = n
failures_sent n Size = n
failures_sent n Over = n
failures_sent n Failed = n
failures_sent n Unsent = one_more n
