-- What a node goes by, in the proofs alone, and what its parts are before it is opened.
use Rattle.std.specs.Prelude.{◌≡◌, ℕ, ◌<◌, List, slice_index}
use Rattle.logbook.specs.Pages.{Book}
use Rattle.swim_history.specs.declared.entries.Entry.{Entry}
use Rattle.swim_history.specs.Run.{calls_of}

-- the parts of a node: how many entries its journal may have, its ledgers, one for each seat's calls and one for the
-- calls
-- that met a full journal, its list of changes, and its cells
pub record PartNames : Type 0 where
  pub limit : ℕ
  pub ledgers : List ℕ
  pub log : Book
  pub cells : List ℕ

-- what was counted of a seat: how many calls of it were answered, and how many met a full journal
pub record Count : Type 0 where
  pub seat : ℕ
  pub calls : ℕ
  pub full : ℕ

abbrev pub none_counted : ℕ → Count
none_counted seat = record { seat = seat; calls = 0; full = 0 }

-- what was counted of all seats: the answered calls of each, and how many calls of all met a full journal
pub record Totals : Type 0 where
  pub calls : List ℕ
  pub full : ℕ

-- each count is how many entries of its seat the history has
abbrev pub AreCounts : List ℕ → List Entry → Type 0
AreCounts counts h = (seat : ℕ) → seat < 4 → slice_index counts seat ≡ calls_of seat h
