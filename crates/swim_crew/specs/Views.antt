-- What is seen of lives that were lived, life by life.
use Rattle.std.specs.Prelude.{◌≡◌, ℕ, List, [], ◌∷◌}
use Rattle.swim_crew.specs.declared.pasts.Past.{Past}
use Rattle.swim_crew.specs.Lives.{number_after}

-- how a life of this number, of which this is left, changes what is seen
abbrev pub Moves : Type 0 → Type 1
Moves X = ℕ → Past → X → X → Type 0

-- each of these lives, newest first, changed what is seen so, one after the other, and nothing else changed it
abbrev pub MovedBy : {X : Type 0} → Moves X → X → List Past → X → Type 0
MovedBy moves old [] new = new ≡ old
MovedBy {X} moves old (past ∷ before) new =
    (mid : X) × MovedBy moves old before mid × moves (number_after before) past mid new
