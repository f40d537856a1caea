-- What holds of each element of a list, at a place.
use Rattle.std.proofs.Common.{ℕ, zero, suc, ◌<◌, List, [], ◌∷◌, length, get_or, arith}
use Rattle.std.specs.List.{AllByRecursion}

pub each_at : {X : Type 0} (P : X → Type 0) (xs : List X) (k : ℕ) (d : X) → AllByRecursion P xs → k < length xs →
    P (get_or xs k d)
each_at P [] k d each lt = absurd (omega arith)
each_at P (x ∷ xs) zero d each lt = each.0
each_at P (x ∷ xs) (suc k) d each lt = each_at P xs k d each.1 (omega arith)
