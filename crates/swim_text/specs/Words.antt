-- Words of a line.
use Rattle.std.specs.Prelude.{◌≡◌, ℕ, ◌==◌, Bool, true, false, List, [], ◌∷◌, length, cond, Option, Some, None, refl}
use Rattle.std.specs.List.{slice_split, onto_first}
use Rattle.std.specs.Option.{option_map}
use Rattle.std.proofs.Common.{arith}
use Rattle.swim_text.specs.Parts.{cut}

-- the text cut at each separator: one part more than separators, and an empty part between two that touch
abbrev pub words_by : ℕ → List ℕ → List (List ℕ)
words_by separator text = slice_split (λ b. b == separator) text

-- the text cut at each space
abbrev pub words_of : List ℕ → List (List ℕ)
words_of text = words_by 32 text

-- the words of what is left of a text, if anything is
abbrev pub words_left : ℕ → Option (List ℕ) → List (List ℕ)
words_left separator None = []
words_left separator (Some text) = words_by separator text

-- ---- laws

-- the first word ends at the first separator, and a text without one is one word
abbrev pub words_after : ℕ → List ℕ → Option (List ℕ × List ℕ) → List (List ℕ)
words_after separator text None = text ∷ []
words_after separator text (Some parts) = parts.0 ∷ words_by separator parts.1

pub words_cut : (separator : ℕ) (text : List ℕ) → words_by separator text ≡ words_after separator text
    (cut separator text)
words_cut separator [] = refl
words_cut separator (b ∷ rest) = by (b == separator) (cut separator rest) (words_cut separator rest)
  where
    by : (c : Bool) (parts : Option (List ℕ × List ℕ)) → words_by separator rest ≡ words_after separator rest parts
        → cond c ([] ∷ words_by separator rest) (onto_first b (words_by separator rest)) ≡ words_after separator
        (b ∷ rest) (cond c (Some ([], rest)) (option_map (λ parts. (b ∷ parts.0, parts.1)) parts))
    by true parts again = refl
    by false None again = rw again refl
    by false (Some parts) again = rw again refl

-- a text has a word
pub words_some : (separator : ℕ) (text : List ℕ) → (length (words_by separator text) == 0) ≡ false
words_some separator [] = refl
words_some separator (b ∷ rest) = by (b == separator) (words_by separator rest)
  where
    by : (c : Bool) (words : List (List ℕ)) → (length (cond c ([] ∷ words) (onto_first b words)) == 0) ≡ false
    by true words = grind arith
    by false [] = grind arith
    by false (word ∷ words) = grind arith
