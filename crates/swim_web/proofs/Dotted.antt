-- A text without its end.
use Rattle.std.proofs.Common.{◌≡◌, ◌-◌, ◌+◌, ℕ, true, false, List, [], ◌∷◌, Option, Some, None, refl, ap}
use Rattle.std.proofs.Common.{length, take, drop, nat_eq, MatchOption, Bor, option_copied}
use Rattle.std.specs.Cmp.Lexicographic.{pointwise}
use Rattle.swim_web.specs.Replies.{samples_in}

pub front_of : (text : List ℕ) (r : Option (Bor (List ℕ))) →
    MatchOption r (pointwise nat_eq (drop (length text - 2) text) (46 ∷ 10 ∷ []) ≡ false)
    (λ x. (pointwise nat_eq (drop (length text - 2) text) (46 ∷ 10 ∷ []) ≡ true) × (x.now ≡ take (length text - 2) text)
    × (length x.now + 2 ≡ length text)) →
    option_copied r ≡ samples_in text
front_of text None h = rw h refl
front_of text (Some x) h = rw h.0 (ap Some h.1)
