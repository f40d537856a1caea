-- The text of a journal's calls.
use Rattle.std.specs.Prelude.{ℕ, List, [], ◌∷◌, ◌++◌}
use Rattle.swim_history.specs.declared.seats.Kept.{Kept}
use Rattle.swim_node.specs.Cells.{Filing}
use Rattle.swim_journal.specs.Lines.{call_line, answer_line, IsReadBack}

-- the two lines of an answered call
abbrev pub kept_text : Kept → List ℕ
kept_text k = call_line k.call ++ answer_line k.position k.reply

-- the lines of calls, oldest first
abbrev pub calls_text : List Filing → List ℕ
calls_text [] = []
calls_text (f ∷ calls) = kept_text f.kept ++ calls_text calls

-- each of the calls reads back
abbrev pub AreReadBack : List Filing → Type 0
AreReadBack [] = Unit {0}
AreReadBack (f ∷ calls) = IsReadBack f.kept.call × AreReadBack calls
