use Rattle.std.proofs.Common.{◌≡◌, length}
use Rattle.swim_fence.proofs.Indexing.{AreIndexed}
use Rattle.swim_fence.proofs.places.Places.indexed.Given as goal

-- the places so far stand in the spans of their hashes
abbrev pub invariant-loop-place : goal.invariant-loop-place
invariant-loop-place l = record {
  starts : length l.starts ≡ 512;
  ends : length l.ends ≡ 512;
  indexed : AreIndexed l.member-items l.starts l.ends l.place;
}
