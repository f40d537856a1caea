use Rattle.swim_fence.proofs.Indexing.{IsPassed}
use Rattle.swim_fence.proofs.places.Places.place_of.Given as goal

-- no place so far is the address's
abbrev pub invariant-loop-place : goal.invariant-loop-place
invariant-loop-place l = IsPassed l.members l.start l.peer l.place
