-- Where texts differ.
use Rattle.std.specs.Prelude.{ℕ, suc, ◌==◌, List, ◌∷◌, if◌then◌else◌}

-- how many bytes at the front of two texts are the same
abbrev pub same_front : List ℕ → List ℕ → ℕ
same_front (b ∷ left) (c ∷ right) = if b == c then suc (same_front left right) else 0
same_front left right = 0
