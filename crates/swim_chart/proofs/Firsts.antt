-- A text is its first character and the others.
use Rattle.std.proofs.Common.{◌≡◌, ℕ, ◌≤◌, List, [], ◌∷◌, ◌++◌, length, get_or, refl, sym, ap, arith}
use Rattle.swim_text.specs.TwoPuts.{first_and_others, others_of}
use Rattle.swim_chart.specs.Frame.{escaped, escaped_one}

same_first : (xs : List ℕ) (d : ℕ) → 1 ≤ length xs → get_or xs 0 d ≡ get_or xs 0 (get_or xs 0 d)
same_first [] d some = absurd (omega (arith, some))
same_first (x ∷ xs) d some = refl

pub first_escaped : (text : List ℕ) (d : ℕ) → 1 ≤ length text →
    escaped_one (get_or text 0 d) ++ escaped (others_of text) ≡ escaped text
first_escaped text d some = ap escaped (sym (first_and_others text (get_or text 0 d) some (same_first text d some)))
