-- How what is made of a list grows with it.
use Rattle.std.proofs.Common.{◌≡◌, List, [], ◌∷◌, ◌++◌, Option, Some, None, refl, ap}
use Rattle.swim_trail.specs.Growing.{Grows}
use Rattle.swim_guard.specs.Each.{all_by, each_by, in_front}

-- a list grows behind its first one as without it
pub grows_in_front : {B : Type 0} (first : Option B) (old new : Option (List B)) (more : List B) → Grows old new more →
    Grows (in_front first old) (in_front first new) more
grows_in_front None old new more is = tt
grows_in_front (Some first) None None more is = tt
grows_in_front (Some first) None (Some new) more is = absurd is
grows_in_front (Some first) (Some old) None more is = absurd is
grows_in_front (Some first) (Some old) (Some new) more is = ap (λ all. first ∷ all) is

one_more : {T A B : Type 0} (made : T → A → B) (told : List T) (below : List A) (newest : T) (last : A) →
    Grows (each_by made told below) (each_by made (told ++ newest ∷ []) (below ++ last ∷ [])) (made newest last ∷ [])
one_more made [] [] newest last = refl
one_more made [] (a ∷ []) newest last = tt
one_more made [] (a ∷ b ∷ rest) newest last = tt
one_more made (t ∷ []) [] newest last = tt
one_more made (t ∷ u ∷ others) [] newest last = tt
one_more made (t ∷ others) (a ∷ rest) newest last =
    grows_in_front (Some (made t a)) (each_by made others rest)
    (each_by made (others ++ newest ∷ []) (rest ++ last ∷ [])) (made newest last ∷ [])
    (one_more made others rest newest last)

-- what is made of one more is one more
pub one_more_by : {T A B : Type 0} (made : T → A → B) (before now : Option (List A)) (old new : List T) (newest : T)
    (last : A) → Grows before now (last ∷ []) → new ≡ old ++ newest ∷ [] →
    Grows (all_by made before old) (all_by made now new) (made newest last ∷ [])
one_more_by made None None old new newest last grows is = tt
one_more_by made None (Some now) old new newest last grows is = absurd grows
one_more_by made (Some before) None old new newest last grows is = absurd grows
one_more_by made (Some before) (Some now) old new newest last grows is =
    rw (grows, is) (one_more made old before newest last)
