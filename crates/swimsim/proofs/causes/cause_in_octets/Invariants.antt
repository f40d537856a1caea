-- Each octet is looked at once.
use Rattle.std.proofs.Common.{length}
use Rattle.swimsim.proofs.causes.cause_in_octets.Given as goal

abbrev pub invariant-loop-octet : goal.invariant-loop-octet
invariant-loop-octet l = Unit {0}

abbrev pub decreases-loop-octet : goal.decreases-loop-octet
decreases-loop-octet l = length l.octets
