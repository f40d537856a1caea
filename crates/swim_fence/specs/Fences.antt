-- What a fence keeps, and that it is what its history comes to.
use Rattle.std.specs.Prelude.{ℕ, ◌≡◌, ◌<◌, List, [], ◌∷◌, length, Bool, if◌then◌else◌}
use Rattle.std.specs.Prelude.{Option, Some, None, option_map, position, slice_index_or, slice_set, unwrap_or}
use Rattle.swim_wire.specs.Address.{Address}
use Rattle.swim_fence.specs.Buckets.{after, amount_at, bucket_of, full, pays}
use Rattle.swim_fence.specs.Histories.{Event, is_listed, is_same, own_times, strange_times}
use Rattle.swim_fence.specs.Histories.Event.{Listed}
use Rattle.swim_fence.specs.declared.buckets.Bucket.{Bucket}

-- the rate, the members' addresses and their buckets in the same order, and the bucket of all other addresses
pub record Kept : Type 0 where
  pub rate : ℕ
  pub members : List Address
  pub buckets : List Bucket
  pub strangers : Bucket

-- the bucket of a member's address
abbrev pub bucket_at : Kept → Address → Option Bucket
bucket_at k a = option_map (λ place. slice_index_or k.buckets place (full k.rate)) (position (is_same a) k.members)

-- each member has a bucket
abbrev pub HasRoom : Kept → Type 0
HasRoom k = (a : Address) (place : ℕ) → position (is_same a) k.members ≡ Some place → place < length k.buckets

-- the bucket of an address once it is listed: the one that it has, or a full one
abbrev pub bucket_for : Kept → Address → Bucket
bucket_for k a = unwrap_or (bucket_at k a) (full k.rate)

-- the bucket of an address by its history
abbrev pub bucket_by : ℕ → List Event → Address → Option Bucket
bucket_by rate h a = if is_listed a h then Some (bucket_of rate (own_times a h)) else None

-- the bucket that a datagram from that address asks
abbrev pub asked_bucket : Kept → Address → Bucket
asked_bucket k a = unwrap_or (bucket_at k a) k.strangers

-- whether it passes
abbrev pub passes_by : Kept → Address → ℕ → Bool
passes_by k a now = pays (amount_at k.rate (asked_bucket k a) now)

-- a bucket is put in that place, or in that of the strangers
abbrev pub put_at : Option ℕ → Bucket → Kept → Kept
put_at (Some place) bucket k = record k { buckets = slice_set k.buckets place bucket }
put_at None bucket k = record k { strangers = bucket }

-- what is kept after it asked
abbrev pub after_asked : Kept → Address → ℕ → Kept
after_asked k a now = put_at (position (is_same a) k.members) (after k.rate now (asked_bucket k a)) k

-- the buckets are those that the history comes to. With a rate of 0 nothing is kept of it
pub record Follows (k : Kept) (h : List Event) : Type 0 where
  pub members : 0 < k.rate → (a : Address) → bucket_at k a ≡ bucket_by k.rate h a
  pub strangers : 0 < k.rate → k.strangers ≡ bucket_of k.rate (strange_times h)

-- the rate is that one from now on: where it was another, all that happened before is forgotten, but for who is listed
pub record TakesRate (old : Kept) (rate : ℕ) (new : Kept) : Type 0 where
  pub same : old.rate ≡ rate → new ≡ old
  pub rated : new.rate ≡ rate
  pub anew : (old.rate ≡ rate → ⊥) → Follows new (Listed old.members ∷ [])
