-- Files that were read or written whole.
use Rattle.std.specs.Prelude.{ℕ, List}

-- a file: its path, and its text as far as that was read or written
pub record Document : Type 0 where
  pub path : List ℕ
  pub text : List ℕ

abbrev pub document : List ℕ → List ℕ → Document
document path text = record { path = path; text = text }

-- what was noted of one: its text, and its path
abbrev pub document_in : List ℕ × List ℕ → Document
document_in i = document i.1 i.0
