-- A datagram is refused only where as many as the rate asked within the second before.
use Rattle.std.proofs.Common.{◌≡◌, ℕ, ◌+◌, ◌-◌, ◌*◌, ◌<◌, ◌≤◌, min, max, Bool, true, false, cond, ◌||◌, nat_eq, nat_lt}
use Rattle.std.proofs.Common.{◌⊎◌, inl, inr, List, [], ◌∷◌, ◌∙◌, ap, arith}
use Rattle.std.specs.List.{All}
use Rattle.std.proofs.Math.Nat.{mul-le-mul_left}
use Rattle.std.proofs.lemmas.Bool.{cases_lt, lt-ltb}
use Rattle.std.proofs.lemmas.List.Elements.{All-head, All-tail}
use Rattle.std.proofs.lemmas.List.Sums.{sum_by-cons}
use Rattle.swim_wire.specs.Address.{Address}
use Rattle.swim_fence.specs.Buckets.{AreInOrder, amount_at, asked_lately, bucket_of, left, most, passes_after, pays}
use Rattle.swim_fence.specs.Buckets.{price, second}
use Rattle.swim_fence.specs.Histories.{Event, passes, times_of}

-- no more is paid than a datagram costs
left_least : (amount : ℕ) → amount ≤ left amount + price
left_least amount = grind arith

-- the latest time is none behind
latest : (rate : ℕ) (times : List ℕ) (now : ℕ) → All (λ asked. asked ≤ now) times → (bucket_of rate times).at ≤ now
latest rate [] now h = omega arith
latest rate (asked ∷ before) now h =
    omega (
      arith,
      All-head (λ t. t ≤ now) asked before h,
      latest rate before now (All-tail (λ t. t ≤ now) asked before h),
    )

-- what a datagram of the last second leaves, and what it costs
lately : (rate amount at asked now room rest : ℕ) → min room (amount + rate * (asked - at)) ≤ rest + price →
    at ≤ asked → asked ≤ now →
    min room (amount + rate * (now - at)) ≤ min room (rest + rate * (now - asked)) + price
lately rate amount at asked now room rest paid first second_is =
    let span : now - at ≤ (asked - at) + (now - asked) = omega arith in
    omega (arith, mul-le-mul_left rate span)

-- a bucket is full a second after
long_ago : (rate asked now rest : ℕ) → asked + second ≤ now → most rate ≤ min (most rate) (rest + rate * (now - asked))
long_ago rate asked now rest h =
    let span : second ≤ now - asked = omega arith in
    omega (arith, mul-le-mul_left rate span)

-- what is in a bucket, and what the datagrams of the last second cost, fill it
fills : (rate : ℕ) (times : List ℕ) (now : ℕ) → AreInOrder (now ∷ times) →
    most rate ≤ amount_at rate (bucket_of rate times) now + asked_lately now times * price
fills rate [] now h = omega arith
fills rate (asked ∷ before) now h = by_time (fills rate before now (older, h.1.1)) (cases_lt now (asked + second)) where
  older : All (λ t. t ≤ now) before
  older = All-tail (λ t. t ≤ now) asked before h.0

  asked_first : asked ≤ now
  asked_first = All-head (λ t. t ≤ now) asked before h.0

  counted : asked_lately now (asked ∷ before) ≡ cond (nat_lt now (asked + second)) 1 0 + asked_lately now before
  counted = sum_by-cons (λ (t : ℕ). cond (nat_lt now (t + second)) 1 0) asked before

  bucket_latest : (bucket_of rate before).at ≤ asked
  bucket_latest = latest rate before asked h.1.0

  by_time : most rate ≤ amount_at rate (bucket_of rate before) now + asked_lately now before * price →
      (now < asked + second) ⊎ (asked + second ≤ now) →
      most rate ≤ amount_at rate (bucket_of rate (asked ∷ before)) now + asked_lately now (asked ∷ before) * price
  by_time all (inl soon) =
      let one : asked_lately now (asked ∷ before) ≡ 1 + asked_lately now before = counted ∙
      ap (λ b. cond b 1 0 + asked_lately now before) (lt-ltb now (asked + second) soon) in
      let bucket = bucket_of rate before in
      let rest = left (amount_at rate bucket asked) in
      let same : max bucket.at asked ≡ asked = omega (arith, bucket_latest) in
      omega (
        arith,
        all,
        one,
        lately rate bucket.amount bucket.at asked now (most rate) rest (left_least (amount_at rate bucket asked))
            bucket_latest asked_first,
        ap (λ t. min (most rate) (rest + rate * (now - t))) same,
      )
  by_time all (inr late) =
      let bucket = bucket_of rate before in
      let rest = left (amount_at rate bucket asked) in
      let same : max bucket.at asked ≡ asked = omega (arith, bucket_latest) in
      omega (arith, long_ago rate asked now rest late, ap (λ t. min (most rate) (rest + rate * (now - t))) same)

-- there is less than a datagram costs
short_of : (amount : ℕ) → pays amount ≡ false → amount < price
short_of amount h = grind arith

either_fails : (a b : Bool) → (a || b) ≡ false → b ≡ false
either_fails true b h = cc
either_fails false b h = h

pub refused_lately : (rate : ℕ) (h : List Event) (from : Address) (now : ℕ) → AreInOrder (now ∷ times_of from h) →
    passes rate h from now ≡ false → rate ≤ asked_lately now (times_of from h)
refused_lately rate h from now order refused =
    let times = times_of from h in
    let short = short_of (amount_at rate (bucket_of rate times) now)
    (either_fails (nat_eq rate 0) (passes_after rate times now) refused) in
    omega (arith, short, fills rate times now order)
