-- Paths as words of a shell's command.
use Rattle.std.specs.Prelude.{ℕ, ◌==◌, ◌&&◌, ◌||◌, nat_le, Bool, List, [], ◌∷◌, ◌++◌, Option, Some, None, codes}
use Rattle.std.specs.Prelude.{if◌then◌else◌}
use Rattle.std.specs.List.{list_all}

-- a sign that a shell takes as it is: a letter, a digit, or one of `-./_`
abbrev pub is_plain : ℕ → Bool
is_plain sign =
    (((nat_le 45 sign && nat_le sign 57) || (nat_le 65 sign && nat_le sign 90)) || sign == 95)
    || (nat_le 97 sign && nat_le sign 122)

-- a sign between single quotes; such a quote ends them, follows as itself behind a backslash, and begins them again
abbrev pub quoted_sign : ℕ → List ℕ
quoted_sign sign = if sign == 39 then codes "'\\''" else sign ∷ []

-- signs between single quotes, and the quote that ends them
abbrev pub quoted_signs : List ℕ → List ℕ
quoted_signs [] = codes "'"
quoted_signs (sign ∷ text) = quoted_sign sign ++ quoted_signs text

-- a text as a shell takes it: as it is if each sign is plain, else between single quotes
abbrev pub quoted : List ℕ → List ℕ
quoted text = if list_all is_plain text then text else codes "'" ++ quoted_signs text

-- what a path has in front, so that no program takes it for an option or for standard input
abbrev pub lead_of : List ℕ → List ℕ
lead_of [] = []
lead_of (sign ∷ path) = if sign == 45 then codes "./" else []

-- a path as a word of a command
abbrev pub shell_word : List ℕ → List ℕ
shell_word path = lead_of path ++ quoted path

-- where a shell is in a word: outside quotes, behind a backslash there, or between single quotes
pub data Reading : Type 0 where
  Bare : Reading
  Escaped : Reading
  Quoted : Reading

abbrev pub onto : ℕ → Option (List ℕ) → Option (List ℕ)
onto sign None = None
onto sign (Some text) = Some (sign ∷ text)

-- what a shell reads in the rest of a word; `None` where it ends too early, or a sign may mean more than itself
abbrev pub read_from : Reading → List ℕ → Option (List ℕ)
read_from Bare [] = Some []
read_from Escaped [] = None
read_from Quoted [] = None
read_from Bare (sign ∷ word) =
    if sign == 39 then read_from Quoted word else (if sign == 92 then read_from Escaped word
    else (if is_plain sign then onto sign (read_from Bare word) else None))
read_from Escaped (sign ∷ word) = if sign == 10 then None else onto sign (read_from Bare word)
read_from Quoted (sign ∷ word) = if sign == 39 then read_from Bare word else onto sign (read_from Quoted word)

-- what a shell hands to a program for a word
abbrev pub shell_reads : List ℕ → Option (List ℕ)
shell_reads word = read_from Bare word
