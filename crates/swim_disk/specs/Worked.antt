-- Worked rows: which files go, by hand.
use Rattle.std.specs.Prelude.{◌≡◌, ℕ, List, [], ◌∷◌, refl}
use Rattle.swim_disk.specs.OldFiles.{removed}

-- beside a new file there are five, the oldest of which is the first
others : List ℕ
others = 11 ∷ 12 ∷ 13 ∷ 14 ∷ 15 ∷ []

-- two stay: the new one, and the newest of the others
two_stay : removed others 2 ≡ 11 ∷ 12 ∷ 13 ∷ 14 ∷ []
unfolding others
two_stay = refl

-- with a sixth place nobody goes
six_stay : removed others 6 ≡ []
unfolding others
six_stay = refl

all_stay : removed others 0 ≡ []
unfolding others
all_stay = refl
