use Rattle.std.proofs.Common.{◌≡◌, map, take}
use Rattle.swim_config.specs.Fingerprints.{fingerprint_of}
use Rattle.swim_reports.proofs.counters.fingerprints_of.Given as goal

-- the fingerprints of the keys so far
abbrev pub invariant-loop-key : goal.invariant-loop-key
invariant-loop-key l = l.fingerprints.items ≡ map fingerprint_of (take l.key-index l.keys)
