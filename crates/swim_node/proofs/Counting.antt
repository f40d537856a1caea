-- How many calls of a seat a history has.
use Rattle.std.proofs.Common.{ℕ, ◌≤◌, ◌==◌, List, length}
use Rattle.swim_history.specs.declared.entries.Entry.{Entry}
use Rattle.swim_history.specs.Run.{calls_of}
use Rattle.swim_history.specs.Laws.UntilProbed.{length-filter-le}

-- a seat has no more calls than the history has entries
pub calls_within : (seat : ℕ) (h : List Entry) → calls_of seat h ≤ length h
calls_within seat h = length-filter-le (λ e. e.seat == seat) h
