use Rattle.std.proofs.Common.{◌≡◌, length, take}
use Rattle.swim_receiver.specs.Showing.{addresses_in}
use Rattle.swim_receiver.proofs.looking.addresses_in.Given as goal

-- the addresses in the rows so far
abbrev pub invariant-loop-row : goal.invariant-loop-row
invariant-loop-row l = (l.addresses.items ≡ addresses_in (take l.row-index l.rows)) ×
    (length l.addresses.items ≡ l.row-index)
