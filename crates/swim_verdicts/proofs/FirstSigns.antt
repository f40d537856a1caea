-- The first sign of a text.
use Rattle.std.proofs.Common.{◌≡◌, ℕ, ◌≤◌, List, [], ◌∷◌, length, get_or, refl, arith}
use Rattle.swim_text.specs.TwoPuts.{first_and_others, others_of}

pub first_is : (text : List ℕ) → 1 ≤ length text → text ≡ get_or text 0 0 ∷ others_of text
first_is [] some = absurd (omega (arith, some))
first_is (sign ∷ text) some = first_and_others (sign ∷ text) sign some refl
