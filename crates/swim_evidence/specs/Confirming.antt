-- Which entries of a journal file are confirmed.
use Rattle.std.specs.Prelude.{ℕ, ◌+◌, ◌-◌, ◌^◌, ◌==◌, min, Option, Some, None, if◌then◌else◌}
use Rattle.swim_evidence.specs.declared.confirming.Missed.{Missed}
use Rattle.swim_evidence.specs.declared.confirming.Confirmations.{Confirmations}

-- the call that waits for its answer, if one does, behind so many confirmed entries
abbrev pub unanswered : ℕ → Option ℕ → Option Missed
unanswered confirmed None = None
unanswered confirmed (Some line) = Some (record { line = line; entry = confirmed })

-- the first
abbrev pub or_else : Option Missed → Option Missed → Option Missed
or_else None later = later
or_else (Some missed) later = Some missed

-- the first call without an answer, where another call follows
abbrev pub first_missed : Confirmations → Option Missed
first_missed c = or_else c.missed (unanswered c.confirmed c.waiting)

-- how many entries are confirmed with the one at that place, from the first on; there are less than 2^32
abbrev pub confirmed_with : ℕ → ℕ → ℕ
confirmed_with confirmed place = if place == confirmed then min (confirmed + 1) (2 ^ 32 - 1) else confirmed
