-- The sum of what was noted, once one more number is.
use Rattle.std.proofs.Common.{◌≡◌, ℕ, ◌+◌, List, [], ◌∷◌, ◌++◌, ap, ◌∙◌, arith}
use Rattle.std.proofs.lemmas.List.Sums.{sum_by-append}
use Rattle.swim_trail.specs.Noted.{value_in}
use Rattle.swim_devices.specs.Trails.{sum_in}

pub sum_more : (old new : List (ℕ × List ℕ)) (n : ℕ) (bytes : List ℕ) → new ≡ old ++ (n, bytes) ∷ [] →
    sum_in new ≡ sum_in old + n
sum_more old new n bytes is =
    let both = sum_by-append value_in old ((n, bytes) ∷ []) in ap sum_in is ∙ omega (arith, both)
