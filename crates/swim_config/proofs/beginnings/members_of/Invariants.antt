use Rattle.std.proofs.Common.{◌≡◌, length, take}
use Rattle.swim_config.specs.Beginnings.{members_of}
use Rattle.swim_config.proofs.beginnings.members_of.Given as goal

-- the members so far
abbrev pub invariant-loop-row : goal.invariant-loop-row
invariant-loop-row l = (l.members.items ≡ members_of (take l.row-index l.rows)) × (length l.members.items ≡ l.row-index)
