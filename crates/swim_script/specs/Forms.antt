-- The forms of a script.
use Rattle.std.specs.Prelude.{ℕ, ◌==◌, ◌&&◌, Bool, List, [], ◌∷◌, length, codes, if◌then◌else◌}
use Rattle.std.specs.Str.{bytes_eq}
use Rattle.swim_text.specs.Lines.{bare}
use Rattle.swim_script.specs.declared.forms.Form.{Form}
use Rattle.swim_script.specs.declared.forms.Form.TheVariants.{Script, Journal}

-- a line is the first of a journal file; so many lines stand before it
abbrev pub is_mark : ℕ → List ℕ → Bool
is_mark before line = before == 0 && bytes_eq line (codes "journal 1")

-- the form after a line more
abbrev pub form_after : ℕ → List ℕ → Form → Form
form_after before line form = if is_mark before line then Journal else form

-- the form of a script that begins with these lines, which have their line feeds and stand newest first
abbrev pub form_of : List (List ℕ) → Form
form_of [] = Script
form_of (line ∷ before) = form_after (length before) (bare line) (form_of before)

-- how many bytes a script of that form may have
abbrev pub most_bytes : Form → ℕ
most_bytes Script = 16777216
most_bytes Journal = 1073741824
