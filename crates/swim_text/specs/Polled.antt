-- What a look at a source finds, and how far the reading of a line gets by it.
use Rattle.std.specs.Prelude.{◌≡◌, ℕ, ◌<◌, List, [], length, Option, Some, None}
use Rattle.std.specs.Io.KnownBytes.{Keeps, IsAtEnd, append_known}
use Rattle.swim_text.specs.declared.polled.Look.{Look}
use Rattle.swim_text.specs.declared.polled.Look.TheVariants.{Ready, Over}
use Rattle.swim_text.specs.declared.polled.Met.{Met}
use Rattle.swim_text.specs.declared.polled.Met.TheVariants.{Nothing, Part, End}
use Rattle.swim_text.specs.declared.short_lines.LineEnd.{LineEnd}
use Rattle.swim_text.specs.ShortLines.{Advances}

-- what a look does to the bytes left: it takes none. Some are ready where it says so, and at the end none is left
abbrev pub Looks : Option (List ℕ) → Option (List ℕ) → List ℕ → Look → Type 0
Looks old new ready Ready = Keeps old new × (0 < length ready)
Looks old new ready Over = Keeps old new × IsAtEnd old
Looks old new ready found = Keeps old new

-- what ended a line, if anything did
abbrev pub end_met : Met → Option LineEnd
end_met Nothing = None
end_met Part = None
end_met (End met) = Some met

-- the source gave some bytes more, and the step is that over a text of which just these are left: it takes all of them
abbrev pub GivesOn : Option (List ℕ) → Option (List ℕ) → Option LineEnd → List ℕ → List ℕ → ℕ → ℕ → ℕ → Type 0
GivesOn old new met line longer limit now after =
    (bytes : List ℕ) × (new ≡ append_known old bytes) × Advances met (Some bytes) (Some []) line longer limit now after
