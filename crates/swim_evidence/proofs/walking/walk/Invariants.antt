use Rattle.std.proofs.Common.{reverse, take}
use Rattle.swim_evidence.specs.Trail.{Follows}
use Rattle.swim_evidence.proofs.walking.walk.Given as goal

-- the trail is that of the entries so far
abbrev pub invariant-loop-place : goal.invariant-loop-place
invariant-loop-place l = Follows l.journal.opening (reverse (take l.place (reverse l.journal.past))) l.trail
