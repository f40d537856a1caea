use Rattle.std.proofs.Common.{◌≡◌, false, take}
use Rattle.swim_wire.specs.Ids.{has}
use Rattle.swim_targets.proofs.places.place_of.Given as goal

abbrev pub invariant-loop-i : goal.invariant-loop-i
invariant-loop-i l = has (take l.i l.ids) l.id ≡ false
