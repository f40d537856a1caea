-- What was noted in a trail.
use Rattle.std.specs.Prelude.{◌≡◌, ℕ, List, [], ◌∷◌, ◌++◌, map}
use Rattle.std.proofs.Common.{ap, ◌∙◌}
use Rattle.std.proofs.lemmas.List.{map-append}

-- the value of what was noted, without its bytes
abbrev pub value_in : {A : Type 0} → A × List ℕ → A
value_in i = i.0

-- what is made of each that was noted, once one more is
pub map_more : {A B : Type 0} (f : A → B) (old new : List A) (x : A) → new ≡ old ++ x ∷ [] →
    map f new ≡ map f old ++ f x ∷ []
map_more f old new x is = ap (map f) is ∙ map-append f old (x ∷ [])
