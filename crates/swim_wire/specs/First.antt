-- The first element of a list that passes a test.
use Rattle.std.proofs.Common.{◌≡◌, Bool, true, false, cond, List, ◌∷◌, Some, None, refl}
use Rattle.std.specs.List.{find}

-- where none is found, the head fails the test, and none is found behind it
pub find_none : {X : Type 0} (p : X → Bool) (x : X) (xs : List X) → find p (x ∷ xs) ≡ None →
    (p x ≡ false) × (find p xs ≡ None)
find_none p x xs e = by (p x) refl e where
  by : (b : Bool) → p x ≡ b → cond b (Some x) (find p xs) ≡ None → (p x ≡ false) × (find p xs ≡ None)
  by true h e = absurd cc
  by false h e = (h, e)
