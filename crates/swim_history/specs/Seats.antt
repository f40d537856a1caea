-- The calls of a seat: what a caller was answered, in order, and where it stands in the journal.
use Rattle.std.specs.Prelude.{ℕ, ◌==◌, List, [], ◌∷◌, ◌++◌, length, if◌then◌else◌}
use Rattle.swim_history.specs.declared.entries.Entry.{Entry}
use Rattle.swim_history.specs.declared.seats.Kept.{Kept}

-- the calls of a seat in a history, oldest first
abbrev pub kept_of : ℕ → List Entry → List Kept
kept_of seat [] = []
kept_of seat (e ∷ before) =
    if e.seat == seat
    then kept_of seat before ++ record {
      position = length before;
      number = e.number;
      call = e.call;
      reply =
          e.reply;
    } ∷ []
    else kept_of seat before
