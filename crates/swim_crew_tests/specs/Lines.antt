-- What a keeper writes of a life.
use Rattle.std.specs.Prelude.{ℕ, Bool, List, ◌++◌, Option, codes, decimal}
use Rattle.swim_text.specs.Streams.{Puts}
use Rattle.swim_crew.specs.declared.pasts.Past.{Past}

-- a line with the number of the life, as far as the sink took it
abbrev pub TellsLine : ℕ → Past → Option (List ℕ) → Option (List ℕ) → Type 0
TellsLine number past old new = (done : Bool) × Puts old new (codes "\nlife " ++ decimal number) done
