-- The buckets of a histogram, one wait on.
use Rattle.std.proofs.Common.{◌≡◌, ℕ, suc, ◌+◌, ◌-◌, ◌^◌, ◌<◌, Bool, true, false, ◌&&◌, cond, List, [], ◌∷◌}
use Rattle.std.proofs.Common.{◌++◌, map, length, get_or, refl, sym, ap, ap₂, ◌∙◌, arith}
use Rattle.std.specs.List.{count_by, sum}
use Rattle.std.proofs.lemmas.Bool.{ltb-true}
use Rattle.std.proofs.lemmas.List.Sums.{sum_by-cons}
use Rattle.std.proofs.Math.Dec.{leb, ltb}
use Rattle.swim_metrics.specs.Counting.{capped}
use Rattle.swim_metrics.specs.Following.{AreOf, bucket_of, bucket_then}
use Rattle.swim_metrics.specs.Waiting.{bounds}
use Rattle.swim_metrics.specs.declared.wait_histograms.HistogramBucket.{HistogramBucket}
use Rattle.swim_metrics.specs.declared.wait_histograms.Waits.{Waits}
use Rattle.swim_metrics.proofs.Counted.{counted_if}

-- a list whose elements are those of another, each changed
pub map_from_each : {X : Type 0} (f : X → X) (new old : List X) → length new ≡ length old →
    ((k : ℕ) (d : X) → k < length old → get_or new k d ≡ f (get_or old k d)) → new ≡ map f old
map_from_each f [] [] same each = refl
map_from_each f [] (y ∷ old) same each = absurd (omega (arith, same))
map_from_each f (x ∷ new) [] same each = absurd (omega (arith, same))
map_from_each f (x ∷ new) (y ∷ old) same each =
    ap₂ (λ b bs. b ∷ bs) (each 0 y (omega arith))
    (map_from_each f new old (omega (arith, same)) (λ k d within. each (suc k) d (omega (arith, within))))

-- a wait is tested as its capped number, where the bound is lower than the cap
same_test : (wait bound : ℕ) → bound < 2 ^ 64 - 1 → leb (capped wait) bound ≡ leb wait bound
same_test wait bound below = grind arith

-- a bucket with a wait more
one_bucket : (waits : List ℕ) (ended wait bound : ℕ) → wait ≡ capped ended → bound < 2 ^ 64 - 1 →
    bucket_then wait (bucket_of waits bound) ≡ bucket_of (ended ∷ waits) bound
one_bucket waits ended wait bound is below =
    let test : leb wait bound ≡ leb ended bound = ap (λ w. leb w bound) is ∙ same_test ended bound below in
    let count : capped (capped (count_by (λ w. leb w bound) waits) + cond (leb wait bound) 1 0) ≡
    capped (count_by (λ w. leb w bound) (ended ∷ waits)) =
    counted_if (λ w. leb w bound) ended waits (capped (count_by (λ w. leb w bound) waits)) _ (leb wait bound) test refl
    refl in
    ap (λ (n : ℕ). record { bound = bound; count = n }) count

and_parts : (a b : Bool) → (a && b) ≡ true → (a ≡ true) × (b ≡ true)
and_parts true true both = (refl, refl)
and_parts true false both = cc
and_parts false b both = cc

-- all bounds are lower than the cap
abbrev pub are_low : List ℕ → Bool
are_low [] = true
are_low (bound ∷ limits) = ltb bound (2 ^ 64 - 1) && are_low limits

-- each bucket with a wait more
buckets_then : (waits limits : List ℕ) (ended wait : ℕ) → wait ≡ capped ended → are_low limits ≡ true →
    map (bucket_then wait) (map (bucket_of waits) limits) ≡ map (bucket_of (ended ∷ waits)) limits
buckets_then waits [] ended wait is low = refl
buckets_then waits (bound ∷ limits) ended wait is low =
    let parts = and_parts (ltb bound (2 ^ 64 - 1)) (are_low limits) low in
    ap₂ (λ b bs. b ∷ bs) (one_bucket waits ended wait bound is (ltb-true bound (2 ^ 64 - 1) parts.0))
    (buckets_then waits limits ended wait is parts.1)

pub all_buckets_then : (waits : List ℕ) (ended wait : ℕ) → wait ≡ capped ended →
    map (bucket_then wait) (map (bucket_of waits) bounds) ≡ map (bucket_of (ended ∷ waits)) bounds
all_buckets_then waits ended wait is = buckets_then waits bounds ended wait is refl

-- ---- the sum and the number of waits

capped_sum : (ended total wait old new : ℕ) → wait ≡ capped ended → old ≡ capped total → new ≡ capped (old + wait) →
    new ≡ capped (ended + total)
capped_sum ended total wait old new is held adds = omega (arith, is, held, adds)

pub total_then : (waits : List ℕ) (ended wait old new : ℕ) → wait ≡ capped ended → old ≡ capped (sum waits) →
    new ≡ capped (old + wait) →
    new ≡ capped (sum (ended ∷ waits))
total_then waits ended wait old new is held adds =
    capped_sum ended (sum waits) wait old new is held adds ∙ ap capped (sym (sum_by-cons (λ w. w) ended waits))

pub one_more_then : (n old new : ℕ) → old ≡ capped n → new ≡ capped (old + 1) → new ≡ capped (suc n)
one_more_then n old new held adds = omega (arith, held, adds)

-- ---- a wait that ended, or none

pub after_one : (w : Waits) (wait : ℕ) (ended waits : List ℕ) → wait ∷ [] ≡ map capped ended →
    ((e : ℕ) → wait ≡ capped e → AreOf w (e ∷ waits)) → AreOf w (ended ++ waits)
after_one w wait [] waits is then_so = cc
after_one w wait (e ∷ []) waits is then_so = then_so e cc
after_one w wait (e ∷ other ∷ more) waits is then_so = cc

pub after_none : (w : Waits) (ended waits : List ℕ) → [] ≡ map capped ended → AreOf w waits → AreOf w (ended ++ waits)
after_none w [] waits is held = held
after_none w (e ∷ more) waits is held = cc
