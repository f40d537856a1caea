use Rattle.std.proofs.Common.{◌≡◌, ℕ, ◌<◌, length, get_or}
use Rattle.swim_wire.specs.Address.{Address}
use Rattle.swim_fence.specs.Fences.{bucket_for}
use Rattle.swim_fence.specs.declared.buckets.Bucket.{Bucket}
use Rattle.swim_fence.proofs.fences.Fence.buckets_for.Given as goal

-- the buckets so far are those of their addresses
abbrev pub invariant-loop-place : goal.invariant-loop-place
invariant-loop-place l = record {
  whole : length l.buckets ≡ 128;
  kept : (p : ℕ) → p < l.place → (a : Address) (b : Bucket) →
      get_or l.buckets p b ≡ bucket_for l.self (get_or l.members p a);
}
