use Rattle.std.proofs.Common.{◌≡◌, map, take}
use Rattle.swim_rejoin.specs.Knowing.{known_once_looked}
use Rattle.swim_rejoin.proofs.rejoiners.knowns_of.Given as goal

-- what is kept of the members so far
abbrev pub invariant-loop-row : goal.invariant-loop-row
invariant-loop-row l = l.made.items ≡ map (known_once_looked l.knowns) (take l.row-index l.rows)
