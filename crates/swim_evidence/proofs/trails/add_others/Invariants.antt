use Rattle.std.proofs.Common.{◌≡◌, ◌++◌, map, take}
use Rattle.swim_evidence.specs.declared.findings.Finding.TheVariants.{Other}
use Rattle.swim_evidence.proofs.trails.add_others.Given as goal

-- the strays so far stand last
abbrev pub invariant-loop-stray : goal.invariant-loop-stray
invariant-loop-stray l = l.findings.items ≡ l.initial.findings.items ++ map Other (take l.stray-index l.strays)
