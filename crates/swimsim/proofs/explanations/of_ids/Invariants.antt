-- Each part is looked at once.
use Rattle.std.proofs.Common.{length}
use Rattle.swimsim.proofs.explanations.of_ids.Given as goal

abbrev pub invariant-loop-part : goal.invariant-loop-part
invariant-loop-part l = Unit {0}

abbrev pub decreases-loop-part : goal.decreases-loop-part
decreases-loop-part l = length l.parts
