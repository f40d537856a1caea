-- What is made of a list by another one, each in its place.
use Rattle.std.specs.Prelude.{List, [], ◌∷◌, Option, Some, None}
use Rattle.std.specs.Option.{option_map}

-- one more in front. Nothing is known of all if nothing is known of it, or of the others
abbrev pub in_front : {B : Type 0} → Option B → Option (List B) → Option (List B)
in_front None others = None
in_front (Some first) others = option_map (λ all. first ∷ all) others

-- what is made of each of these by what is at its place in the other list. Nothing is known of it if there aren't just
-- as many there
abbrev pub each_by : {T A B : Type 0} → (T → A → B) → List T → List A → Option (List B)
each_by made [] [] = Some []
each_by made (told ∷ others) (one ∷ rest) = in_front (Some (made told one)) (each_by made others rest)
each_by made others rest = None

-- the same, as far as it is known of what that is to be made
abbrev pub all_by : {T A B : Type 0} → (T → A → B) → Option (List A) → List T → Option (List B)
all_by made None told = None
all_by made (Some below) told = each_by made told below
