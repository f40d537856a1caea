-- Words on ids and on lists of them.
use Rattle.std.specs.Prelude.{ℕ, Bool, false, ◌||◌, ◌==◌, not, nat_eq, List, [], ◌∷◌, filter, Option, Some, None}
use Rattle.std.specs.List.{list_any}
use Rattle.swim_text.specs.Numbers.{positive_of}

-- the id whose number the text is
abbrev pub id_of : List ℕ → Option ℕ
id_of text = positive_of 4294967295 text

-- how many members a detector may know
abbrev pub most_members : ℕ
most_members = 128

-- the id is on the list
abbrev pub has : List ℕ → ℕ → Bool
has ids id = list_any (nat_eq id) ids

-- some id stands twice
abbrev pub has_twice : List ℕ → Bool
has_twice [] = false
has_twice (id ∷ ids) = has ids id || has_twice ids

-- the list without the id
abbrev pub without : ℕ → List ℕ → List ℕ
without id ids = filter (λ other. not (other == id)) ids

-- the first of a list
abbrev pub front : List ℕ → Option ℕ
front [] = None
front (id ∷ ids) = Some id
