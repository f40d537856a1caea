-- No finding so far is evidence of the verdict.
use Rattle.std.proofs.Common.{take}
use Rattle.swim_verdicts.specs.Examined.{LacksVerdict}
use Rattle.swim_verdicts.proofs.evidence.evidence_of.Given as goal

abbrev pub invariant-loop-finding : goal.invariant-loop-finding
invariant-loop-finding l = LacksVerdict (take l.finding-index l.findings) l.member l.number
