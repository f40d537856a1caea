-- What showing a text does.
use Rattle.std.specs.Prelude.{ℕ, List, Option}
use Rattle.std.specs.Io.KnownBytes.{Appends}
use Rattle.swim_text.specs.Streams.{PutsFront}
use Rattle.swim_outcomes.specs.declared.outcomes.Outcome.{Outcome}
use Rattle.swim_outcomes.specs.declared.outcomes.Outcome.TheVariants.{Helped, Unwritten}

-- a text was written on standard output, or a front of it
abbrev pub Helps : List ℕ → Option (List ℕ) → Option (List ℕ) → Outcome → Type 0
Helps text old new Helped = Appends old new text
Helps text old new Unwritten = PutsFront old new text
Helps text old new outcome = ⊥
