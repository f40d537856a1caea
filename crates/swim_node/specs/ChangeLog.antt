-- The list of all changes that a node published, which only grows. It exists in the proofs alone; what threads share is
-- its length.
use Rattle.std.specs.Prelude.{◌≡◌, ℕ, ◌==◌, true, List, [], ◌∷◌, ◌++◌, length, MatchBool}
use Rattle.logbook.specs.Pages.{Cell, Step, View, Book, Named}
use Rattle.swim_history.specs.declared.rows.Change.{Change}

-- a beginning of the list, and which node's list it is
pub record Begun : Type 0 where
  pub book : Book
  pub changes : List Change

-- the shared word is the length of the list. A book has two words, of which this one leaves the second at 0
abbrev pub IsCounted : List Cell → List Change → Type 0
IsCounted cells log = cells ≡ (length log, true) ∷ (0, true) ∷ []

-- the shared word of a book
abbrev pub head_of : Book → Named
head_of b = record { tracked = true; key = 0; book = b }

-- a change was added to all that had been seen; or the list was longer
abbrev pub Adds : Step Change → View Change ℕ → ℕ → View Change ℕ → Type 0
Adds s v found w = MatchBool (found == s.old) (w.0 ≡ v.0 ++ s.ask ∷ []) (length w.0 ≡ found)
