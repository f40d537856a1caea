use Rattle.std.proofs.Common.{reverse, take}
use Rattle.swim_trace.specs.Beats.{Follows}
use Rattle.swim_trace.proofs.beats.Rhythm.of.Given as goal

-- what is known is that of the entries so far
abbrev pub invariant-loop-place : goal.invariant-loop-place
invariant-loop-place l = Follows l.me (reverse (take l.place (reverse l.journal.past))) l.found
