-- How a list grows, where it is known: what isn't known stays so.
use Rattle.std.specs.Prelude.{◌≡◌, List, [], ◌++◌, Option, Some, None}
use Rattle.std.proofs.Common.{sym, ap, ◌∙◌, append_assoc, append-nil}

-- it grew by these
abbrev pub Grows : {A : Type 0} → Option (List A) → Option (List A) → List A → Type 0
Grows None None more = Unit {0}
Grows None (Some new) more = ⊥
Grows (Some old) None more = ⊥
Grows (Some old) (Some new) more = new ≡ old ++ more

-- ---- laws

pub grows_none : {A : Type 0} (old : Option (List A)) → Grows old old []
grows_none None = tt
grows_none (Some old) = sym (append-nil old)

pub grows_both : {A : Type 0} (old mid new : Option (List A)) (xs ys : List A) → Grows old mid xs → Grows mid new ys →
    Grows old new (xs ++ ys)
grows_both None None None xs ys p q = tt
grows_both None None (Some z) xs ys p q = absurd q
grows_both None (Some y) new xs ys p q = absurd p
grows_both (Some x) None new xs ys p q = absurd p
grows_both (Some x) (Some y) None xs ys p q = absurd q
grows_both (Some x) (Some y) (Some z) xs ys p q = q ∙ ap (λ l. l ++ ys) p ∙ append_assoc x xs ys
