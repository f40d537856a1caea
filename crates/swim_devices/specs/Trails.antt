-- What was noted, put together.
use Rattle.std.specs.Prelude.{◌≡◌, ℕ, List, [], ◌∷◌, ◌++◌}
use Rattle.std.specs.List.{flat_map, sum_by}
use Rattle.std.proofs.Common.{ap, ◌∙◌, append-nil}
use Rattle.std.proofs.lemmas.Grind.{flat_map-append}
use Rattle.swim_trail.specs.Noted.{value_in}

-- the sum of numbers that were noted
abbrev pub sum_in : List (ℕ × List ℕ) → ℕ
sum_in items = sum_by value_in items

-- the bytes that were noted
abbrev pub bytes_in : {A : Type 0} → A × List ℕ → List ℕ
bytes_in i = i.1

-- all of them, once more were noted
pub bytes_more : {A : Type 0} (old new : List (A × List ℕ)) (a : A) (bytes : List ℕ) → new ≡ old ++ (a, bytes) ∷ [] →
    flat_map bytes_in new ≡ flat_map bytes_in old ++ bytes
bytes_more old new a bytes is =
    ap (flat_map bytes_in) is
    ∙ flat_map-append bytes_in old ((a, bytes) ∷ [])
    ∙ ap (λ more. flat_map bytes_in old ++ more) (append-nil bytes)
