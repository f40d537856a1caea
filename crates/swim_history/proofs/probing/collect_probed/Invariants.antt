use Rattle.std.proofs.Common.{◌≡◌, map, reverse, take}
use Rattle.swim_history.specs.Probes.{probes, probed_by}
use Rattle.swim_history.proofs.probing.collect_probed.Given as goal

-- the probes of the entries so far
abbrev pub invariant-loop-place : goal.invariant-loop-place
invariant-loop-place l = l.probed.items ≡ map probed_by (probes (reverse (take l.place l.entries.items)))
