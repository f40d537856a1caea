-- What is taken of a source, whole lines at a time.
use Rattle.std.specs.Prelude.{◌≡◌, ℕ, false, List, [], ◌∷◌, ◌++◌, Option, Some, None}
use Rattle.std.specs.Io.KnownBytes.{Consumes}
use Rattle.swim_text.specs.Lines.{has_feed}
use Rattle.swim_text.specs.declared.short_lines.LineEnd.{LineEnd}
use Rattle.swim_text.specs.declared.short_lines.LineEnd.TheVariants.{Feed}

-- the bytes that a source lost stand behind those that were held before
pub record Moves (old new : Option (List ℕ)) (before after : List ℕ) : Type 0 where
  pub part : List ℕ
  pub puts : after ≡ before ++ part
  pub takes : Consumes old new part

-- what ended the last of some lines: a line feed behind it; else there is none in them
abbrev pub EndsBy : LineEnd → List ℕ → Type 0
EndsBy Feed lines = (front : List ℕ) × (lines ≡ front ++ 10 ∷ [])
EndsBy end lines = has_feed lines ≡ false

-- the same, where nothing may have ended it so far
abbrev pub EndsIfMet : Option LineEnd → List ℕ → Type 0
EndsIfMet None lines = has_feed lines ≡ false
EndsIfMet (Some end) lines = EndsBy end lines
