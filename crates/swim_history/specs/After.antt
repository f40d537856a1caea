-- What a detector goes on from after a journal.
use Rattle.std.specs.Prelude.{ℕ, ◌<◌, List, [], ◌∷◌, if◌then◌else◌}
use Rattle.std.specs.List.{AllByRecursion}
use Rattle.swim_history.specs.declared.entries.Entry.{Entry}
use Rattle.swim_history.specs.Setting.{Setting}
use Rattle.swim_history.specs.Events.{is_start}
use Rattle.swim_history.specs.Clock.{period_number}
use Rattle.swim_history.specs.Changes.{table}
use Rattle.swim_history.specs.Run.{IsRun}

-- the same parameters, the members known after the history with their states, ascending by id, and the last period
-- number that was used
abbrev pub setting_after : Setting → List Entry → Setting
setting_after o h = record o { rows = table o h; last = period_number o h }

-- the numbers of the periods that were begun, newest first
abbrev pub numbers : Setting → List Entry → List ℕ
numbers o [] = []
numbers o (e ∷ before) =
    if is_start e then period_number o (e ∷ before) ∷ numbers o before else numbers o before

-- each number of a run that goes on from there is greater than each one used before
abbrev pub NumbersGoOn : Setting → List Entry → Type 0
NumbersGoOn o h =
    (newer : List Entry) → IsRun (setting_after o h) newer →
    AllByRecursion (λ number. AllByRecursion (λ earlier. earlier < number) (numbers o h))
    (numbers (setting_after o h) newer)
