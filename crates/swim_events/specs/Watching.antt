-- What a follower of a journal knows.
use Rattle.std.specs.Prelude.{ℕ, ◌+◌, ◌-◌, ◌^◌, min, List, Option, Some, None, if◌then◌else◌}
use Rattle.swim_history.specs.declared.rows.Row.{Row}
use Rattle.swim_history.specs.declared.rows.Change.{Change}
use Rattle.swim_history.specs.declared.replies.Reply.{Reply}
use Rattle.swim_history.specs.declared.entries.Entry.{Entry}
use Rattle.swim_history.specs.Setting.{Setting}
use Rattle.swim_history.specs.Clock.{period_number}
use Rattle.swim_history.specs.Events.{is_starting}
use Rattle.swim_history.specs.Changes.{table}
use Rattle.swim_history.specs.Changing.{changed_within}

-- the member table, and the last period number used
pub record Known : Type 0 where
  pub rows : List Row
  pub number : ℕ

-- what is known of a history
abbrev pub known : Setting → List Entry → Known
known o h = record { rows = table o h; number = period_number o h }

-- the rows after an entry that makes this change, if any
abbrev pub rows_then : Option Change → List Row → List Row
rows_then None rows = rows
rows_then (Some change) rows = changed_within change rows

-- the last period number used after an entry; it stops at 2^64-1
abbrev pub number_then : Reply → ℕ → ℕ
number_then reply number = if is_starting reply then min (number + 1) (2 ^ 64 - 1) else number
