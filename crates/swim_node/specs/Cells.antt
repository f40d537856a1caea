-- What stands in the cells of a node, one for each place of its journal, and what is known of it.
use Rattle.std.specs.Prelude.{◌≡◌, ℕ, ◌<◌, List, [], ◌∷◌, ◌++◌, length, slice_index, slice_get, Option, Some, IsSome}
use Rattle.swim_history.specs.declared.entries.Entry.{Entry}
use Rattle.swim_history.specs.declared.seats.Kept.{Kept}
use Rattle.swim_node.specs.Answered.{kept}

-- what stands in the cell of a call's place: the call, and which seat made it
pub record Filing : Type 0 where
  pub seat : ℕ
  pub kept : Kept

-- what is known of a cell: which one it is, and what stands in it, if it was seen
pub record Noted : Type 0 where
  pub cell : ℕ
  pub known : Option Filing

-- that the call of a seat stands in the cell of its place
abbrev pub noted : List ℕ → ℕ → Kept → Noted
noted cells seat k = record { cell = slice_index cells k.position; known = Some (record { seat = seat; kept = k }) }

-- that each entry of a history stands in the cell of its place, oldest first
abbrev pub notes_of : List ℕ → List Entry → List Noted
notes_of cells [] = []
notes_of cells (e ∷ before) =
    notes_of cells before ++ noted cells e.seat (kept (length before) e.number e.call e.reply) ∷ []

-- each note is of the cell of its place, and knows what stands there
abbrev pub ArePlaced : List ℕ → List Noted → Type 0
ArePlaced cells notes =
    (place : ℕ) (n : Noted) → slice_get notes place ≡ Some n → (n.cell ≡ slice_index cells place) × IsSome n.known

-- the calls are numbered from 0 on
abbrev pub AreNumbered : List Kept → Type 0
AreNumbered calls = (number : ℕ) (k : Kept) → slice_get calls number ≡ Some k → k.number ≡ number

-- the notes tell of the seat's first calls, so many of them, that each stands in the cell of its place
abbrev pub AreNoted : List ℕ → ℕ → List Kept → List Noted → ℕ → Type 0
AreNoted cells seat calls notes count =
    (i : ℕ) (k : Kept) → i < count → slice_get calls i ≡ Some k → slice_get notes k.position ≡ Some (noted cells seat k)
