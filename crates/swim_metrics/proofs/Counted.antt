-- Counts, one entry on.
use Rattle.std.proofs.Common.{◌≡◌, ℕ, ◌+◌, Bool, cond, List, ◌∷◌, ◌++◌, refl, sym, ap, ◌∙◌, arith}
use Rattle.std.specs.List.{count_by}
use Rattle.std.proofs.lemmas.List.Sums.{sum_by-append, sum_by-cons}
use Rattle.swim_history.specs.declared.replies.DropReason.{DropReason}
use Rattle.swim_history.specs.declared.replies.DropReason.TheVariants.{NotForMe, Borrowed, AboutMe, Unlisted, TableFull}
use Rattle.swim_history.specs.declared.replies.DropReason.TheVariants.{Stray, NoRequest}
use Rattle.swim_metrics.specs.Counting.{capped}

pub capped_on : (n k new : ℕ) → new ≡ capped (capped n + k) → new ≡ capped (k + n)
capped_on n k new adds = omega (arith, adds)

-- one entry more, which is counted or not
pub counted_if : {X : Type 0} (test : X → Bool) (x : X) (xs : List X) (old new : ℕ) (is_so : Bool) → is_so ≡ test x →
    old ≡ capped (count_by test xs) → new ≡ capped (old + cond is_so 1 0) → new ≡ capped (count_by test (x ∷ xs))
counted_if test x xs old new is_so is held adds =
    let bit = cond (test x) 1 0 in
    let step : count_by test (x ∷ xs) ≡ bit + count_by test xs = sum_by-cons (λ y. cond (test y) 1 0) x xs in
    let added : new ≡ capped (capped (count_by test xs) + bit) = rw (adds, held, is) refl in
    capped_on (count_by test xs) bit new added ∙ ap capped (sym step)

-- some more, of which so many are counted
pub counted_of : {X : Type 0} (test : X → Bool) (more xs all : List X) (old new times : ℕ) →
    times ≡ count_by test more →
    all ≡ more ++ xs → old ≡ capped (count_by test xs) → new ≡ capped (old + times) → new ≡ capped (count_by test all)
counted_of test more xs all old new times is whole held adds =
    let step : count_by test all ≡ count_by test more + count_by test xs =
    ap (count_by test) whole ∙ sum_by-append (λ y. cond (test y) 1 0) more xs in
    let added : new ≡ capped (capped (count_by test xs) + count_by test more) = rw (adds, held, is) refl in
    capped_on (count_by test xs) (count_by test more) new added ∙ ap capped (sym step)

-- a late ack more, or none
one_late : (bit n m old new : ℕ) → old ≡ capped (n + m) → new ≡ capped (old + bit) → new ≡ capped ((bit + n) + m)
one_late bit n m old new held adds = omega (arith, held, adds)

pub late_then : (test is_so : Bool) (n m old new : ℕ) → is_so ≡ test → old ≡ capped (n + m) →
    new ≡ capped (old + cond is_so 1 0) → new ≡ capped ((cond test 1 0 + n) + m)
late_then test is_so n m old new is held adds =
    one_late (cond test 1 0) n m old new held (adds ∙ ap (λ b. capped (old + cond b 1 0)) is)

-- what holds for each reason holds for all
pub each_reason : (P : DropReason → Type 0) → P NotForMe → P Borrowed → P AboutMe → P Unlisted → P TableFull → P Stray →
    P NoRequest →
    (why : DropReason) → P why
each_reason P a b c d e f g NotForMe = a
each_reason P a b c d e f g Borrowed = b
each_reason P a b c d e f g AboutMe = c
each_reason P a b c d e f g Unlisted = d
each_reason P a b c d e f g TableFull = e
each_reason P a b c d e f g Stray = f
each_reason P a b c d e f g NoRequest = g
