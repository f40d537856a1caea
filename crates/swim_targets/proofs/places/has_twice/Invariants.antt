use Rattle.std.proofs.Common.{◌≡◌, drop}
use Rattle.swim_wire.specs.Ids.{has_twice}
use Rattle.swim_targets.proofs.places.has_twice.Given as goal

abbrev pub invariant-loop-i : goal.invariant-loop-i
invariant-loop-i l = has_twice l.ids ≡ has_twice (drop l.i l.ids)
