-- A text that is written in two parts.
use Rattle.std.proofs.Common.{◌≡◌, ℕ, ◌≤◌, Bool, true, false, List, [], ◌∷◌, ◌++◌, length, get_or, take, drop, ◌-◌}
use Rattle.std.proofs.Common.{Option, refl, subst, arith}
use Rattle.std.proofs.lemmas.List.{take_all}
use Rattle.swim_text.specs.Streams.{Puts, puts_then, puts_less}

-- the first part failed
pub first_failed : (o n : Option (List ℕ)) (first second text : List ℕ) → first ++ second ≡ text →
    Puts o n first false → Puts o n text false
first_failed o n first second text whole p =
    subst (λ (t : List ℕ). Puts o n t false) whole (puts_less o n first second p)

-- the first part was written, and the second was or was not
pub both_put : (o m n : Option (List ℕ)) (first second text : List ℕ) (done : Bool) → first ++ second ≡ text →
    Puts o m first true → Puts m n second done → Puts o n text done
both_put o m n first second text done whole p q =
    subst (λ (t : List ℕ). Puts o n t done) whole (puts_then o m n first second done p q)

-- the elements after the first, as a pattern of a slice gives them
abbrev pub others_of : {A : Type 0} → List A → List A
others_of xs = take (length xs - 1) (drop 1 xs)

-- a list is its first element and the others
pub first_and_others : {A : Type 0} (xs : List A) (x : A) → 1 ≤ length xs → x ≡ get_or xs 0 x → xs ≡ x ∷ others_of xs
first_and_others [] x some is = absurd (omega (arith, some))
first_and_others (y ∷ ys) x some is =
    let all : take (length (y ∷ ys) - 1) ys ≡ ys = take_all (length (y ∷ ys) - 1) ys (omega arith) in
    rw (all, ← is) refl
