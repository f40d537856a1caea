-- What is read of a node's journal while the node runs: its calls, oldest first, each with its seat.
use Rattle.std.specs.Prelude.{◌≡◌, ℕ, ◌<◌, List, [], ◌∷◌, ◌++◌, length, slice_get, Some}
use Rattle.std.specs.Option.{option_to_list}
use Rattle.swim_history.specs.declared.entries.Entry.{Entry}
use Rattle.swim_node.specs.Answered.{kept}
use Rattle.swim_node.specs.Cells.{Filing, Noted, noted}

-- the call of an entry, and whose it is
abbrev pub filing_of : List Entry → Entry → Filing
filing_of before e = record { seat = e.seat; kept = kept (length before) e.number e.call e.reply }

-- the calls of a history, oldest first
abbrev pub filings_of : List Entry → List Filing
filings_of [] = []
filings_of (e ∷ before) = filings_of before ++ filing_of before e ∷ []

-- that a call stands in the cell of its place
abbrev pub note_in : List ℕ → Filing → Noted
note_in cells f = noted cells f.seat f.kept

-- the calls that notes know
abbrev pub known_of : List Noted → List Filing
known_of [] = []
known_of (n ∷ notes) = option_to_list n.known ++ known_of notes

-- the first of these notes, so many of them, stand among the others, each at its place
abbrev pub StandAmong : List Noted → List Noted → ℕ → Type 0
StandAmong own notes count =
    (i : ℕ) (n : Noted) → i < count → slice_get own i ≡ Some n → slice_get notes i ≡ Some n
