-- Buckets, from which datagrams are paid. Times are in nanoseconds.
use Rattle.std.specs.Prelude.{ℕ, ◌+◌, ◌-◌, ◌*◌, ◌≤◌, Bool, List, [], ◌∷◌, ◌++◌, All}
use Rattle.std.specs.Prelude.{count_by, min, max, nat_le, nat_lt, if◌then◌else◌}
use Rattle.swim_fence.specs.declared.buckets.Bucket.{Bucket}

-- a second
abbrev pub second : ℕ
second = 1000000000

-- what one datagram costs: what a rate of 1 puts in within a second
abbrev pub price : ℕ
price = second

-- what a bucket holds at most: what the datagrams of a second cost
abbrev pub most : ℕ → ℕ
most rate = rate * price

-- a bucket from which nothing was paid
abbrev pub full : ℕ → Bucket
full rate = record { amount = most rate; at = 0 }

-- what is in it at that time: what was left, and what was put in since
abbrev pub amount_at : ℕ → Bucket → ℕ → ℕ
amount_at rate bucket now = min (most rate) (bucket.amount + rate * (now - bucket.at))

-- there is enough for one datagram
abbrev pub pays : ℕ → Bool
pays amount = nat_le price amount

abbrev pub left : ℕ → ℕ
left amount = if pays amount then amount - price else amount

-- the bucket after a datagram that asked at that time
abbrev pub after : ℕ → ℕ → Bucket → Bucket
after rate now bucket = record { amount = left (amount_at rate bucket now); at = max bucket.at now }

-- the bucket after datagrams that asked at these times, the newest first
abbrev pub bucket_of : ℕ → List ℕ → Bucket
bucket_of rate [] = full rate
bucket_of rate (now ∷ before) = after rate now (bucket_of rate before)

-- whether a datagram passes that asks then, after those that asked before
abbrev pub passes_after : ℕ → List ℕ → ℕ → Bool
passes_after rate before now = pays (amount_at rate (bucket_of rate before) now)

-- how many asked within the second before that time
abbrev pub asked_lately : ℕ → List ℕ → ℕ
asked_lately now before = count_by (λ asked. nat_lt now (asked + second)) before

-- no datagram asked at an earlier time than one before it; the newest is the first
abbrev pub AreInOrder : List ℕ → Type 0
AreInOrder [] = Unit {0}
AreInOrder (now ∷ before) = All (λ asked. asked ≤ now) before × AreInOrder before

-- how many datagrams passed of those that asked at the recent times, after those that asked before
abbrev pub passed : ℕ → List ℕ → List ℕ → ℕ
passed rate [] before = 0
passed rate (now ∷ recent) before =
    (if passes_after rate (recent ++ before) now then 1 else 0) + passed rate recent before
