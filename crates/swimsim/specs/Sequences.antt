-- The status that files come to, one after the other.
use Rattle.std.specs.Prelude.{◌≡◌, ℕ, List}
use Rattle.swim_evidence.specs.declared.sequences.Seen.{Seen}
use Rattle.swim_evidence.specs.declared.verdicts.Standing.{Standing}
use Rattle.swim_evidence.specs.declared.verdicts.Standing.TheVariants.{Sound, Starved, Accused}
use Rattle.swim_evidence.specs.Sequences.{IsWorst}

-- the status with which the program ends
abbrev pub status_of : Standing → ℕ
status_of Sound = 0
status_of Starved = 4
status_of Accused = 1

-- it is the status of the worst of what is found of these files, newest first, and of their places
abbrev pub IsStatusOf : List Seen → ℕ → Type 0
IsStatusOf seen status = (worst : Standing) × IsWorst seen worst × (status ≡ status_of worst)
