-- Where an address stands in a list that is looked up by a hash.
use Rattle.std.specs.Prelude.{ℕ, ◌+◌, ◌*◌, ◌/◌, ◌%◌, ◌^◌, ◌<◌, ◌≤◌, List, length, slice_index, slice_index_or}
use Rattle.std.specs.Int.{w32, from_be_bytes}
use Rattle.swim_wire.specs.Address.{Address}

-- an odd number by which addresses that follow each other are spread: 2^64 divided by the golden ratio
abbrev pub spread : ℕ
spread = 0x9E3779B97F4A7C15

-- the hash of an address, below 512: the highest bits of a product
unfoldable pub hash_of : Address → ℕ
hash_of a = (from_be_bytes w32 a.ip * 65536 + a.port) * spread % 2 ^ 64 / 2 ^ 55

-- each address stands in the span of its hash, and no span ends behind the list
pub record IsIndexed (members : List Address) (starts ends : List ℕ) : Type 0 where
  pub within : (hash : ℕ) → slice_index ends hash ≤ length members
  pub begins : (place : ℕ) (d : Address) → place < length members →
      slice_index starts (hash_of (slice_index_or members place d)) ≤ place
  pub ends_behind : (place : ℕ) (d : Address) → place < length members →
      place < slice_index ends (hash_of (slice_index_or members place d))
