-- A text that is held back, with comments between its lines, until it is handed on.
use Rattle.std.specs.Prelude.{◌≡◌, ℕ, Bool, true, false, List, ◌++◌}

-- what contracts see of one: the texts that it took, one after another; the bytes that were handed on so far; and those
-- that are held back
pub record AtText : Type 0 where
  pub taken : List ℕ
  pub handed : List ℕ
  pub held : List ℕ

-- all its bytes
abbrev pub all_of : AtText → List ℕ
all_of t = t.handed ++ t.held

-- it took a text, and its bytes are more by that; or nothing became of it
abbrev pub Takes : AtText → AtText → List ℕ → Bool → Type 0
Takes old new text true = (new.taken ≡ old.taken ++ text) × (all_of new ≡ all_of old ++ text)
Takes old new text false = (new.taken ≡ old.taken) × (all_of new ≡ all_of old)

-- what was noted: bytes
abbrev pub bytes_in : {A : Type 0} → A × List ℕ → List ℕ
bytes_in i = i.1
