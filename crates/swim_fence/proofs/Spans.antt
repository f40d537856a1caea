-- How many datagrams pass within a span.
use Rattle.std.proofs.Common.{◌≡◌, ℕ, ◌+◌, ◌-◌, ◌*◌, ◌≤◌, min, max, cond, List, [], ◌∷◌, ◌++◌, arith}
use Rattle.std.specs.List.{All}
use Rattle.std.proofs.Math.Nat.{mul-le-mul_left}
use Rattle.std.proofs.lemmas.List.Elements.{All-head, All-tail}
use Rattle.swim_fence.specs.Buckets.{amount_at, bucket_of, left, most, passed, passes_after, pays, price}

-- what was paid and what is left is what there was
paid : (amount : ℕ) → cond (pays amount) 1 0 * price + left amount ≡ amount
paid amount = grind arith

-- a bucket never holds more than it can
fits : (rate : ℕ) (times : List ℕ) → (bucket_of rate times).amount ≤ most rate
fits rate [] = omega arith
fits rate (now ∷ before) = omega (arith, paid (amount_at rate (bucket_of rate before) now))

-- what is put in over two times
put_in : (rate sooner later whole : ℕ) → sooner + later ≤ whole → rate * sooner + rate * later ≤ rate * whole
put_in rate sooner later whole h = omega (arith, mul-le-mul_left rate h)

abbrev pub Within : ℕ → ℕ → List ℕ → Type 0
Within from to times = All (λ now. (from ≤ now) × (now ≤ to)) times

within_head : (now : ℕ) (recent : List ℕ) (from to : ℕ) → Within from to (now ∷ recent) → (from ≤ now) × (now ≤ to)
within_head now recent from to h = All-head (λ n. (from ≤ n) × (n ≤ to)) now recent h

-- one datagram more, where what was put in before was put in from the beginning of the span on
more : (rate amount at now from to count here room rest : ℕ) →
    here * price + rest ≡ min room (amount + rate * (now - at)) → now ≤ to → from ≤ at →
    count * price + amount ≤ room + rate * (min at to - from) →
    (here + count) * price + rest ≤ room + rate * (min (max at now) to - from)
more rate amount at now from to count here room rest pay within begun before =
    let span : (min at to - from) + (now - at) ≤ min (max at now) to - from = omega arith in
    omega (arith, put_in rate (min at to - from) (now - at) (min (max at now) to - from) span)

-- what passed is paid of what was there, and of what was put in within the span
spent : (rate : ℕ) (recent before : List ℕ) (from to : ℕ) → Within from to recent →
    passed rate recent before * price + (bucket_of rate (recent ++ before)).amount ≤
    most rate + rate * (min (bucket_of rate (recent ++ before)).at to - from)
spent rate [] before from to h = omega (arith, fits rate before)
spent rate (now ∷ []) before from to h = omega (arith, paid (amount_at rate (bucket_of rate before) now))
spent rate (now ∷ next ∷ rest) before from to h =
    let bucket = bucket_of rate ((next ∷ rest) ++ before) in
    let tail = All-tail (λ n. (from ≤ n) × (n ≤ to)) now (next ∷ rest) h in
    let first = within_head now (next ∷ rest) from to h in
    let second = within_head next rest from to tail in
    more rate bucket.amount bucket.at now from to (passed rate (next ∷ rest) before)
    (cond (passes_after rate ((next ∷ rest) ++ before) now) 1 0) (most rate)
    (left (amount_at rate bucket now)) (paid (amount_at rate bucket now)) first.1 (omega arith)
    (spent rate (next ∷ rest) before from to tail)

-- of those that ask within a span as many pass as were there, and as were put in within it
pub passed_within : (rate : ℕ) (recent before : List ℕ) (from to : ℕ) → Within from to recent →
    passed rate recent before * price ≤ rate * price + rate * (to - from)
passed_within rate recent before from to h =
    let at = (bucket_of rate (recent ++ before)).at in
    let span : min at to - from ≤ to - from = omega arith in
    omega (arith, spent rate recent before from to h, mul-le-mul_left rate span)
