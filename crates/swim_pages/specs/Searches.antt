-- What a search for a verdict has seen, and what is said of what it left out.
use Rattle.std.specs.Prelude.{ℕ, ◌==◌, Bool, true, false, ◌&&◌, List, [], codes}
use Rattle.swim_pages.specs.declared.file_places.FileMark.{FileMark}

-- a mark is of the file with that node of that device
abbrev pub is_node : ℕ → ℕ → FileMark → Bool
is_node device node mark = (mark.device == device) && (mark.node == node)

-- what is said if files were left out
abbrev pub rest_text : Bool → List ℕ
rest_text true = codes "not all files were looked at\n"
rest_text false = []
