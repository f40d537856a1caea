use Rattle.std.proofs.Common.{◌≡◌, length, take}
use Rattle.swim_keys.proofs.keyrings.signers_of.Given as goal

-- the signers of the keys so far
abbrev pub invariant-loop-key : goal.invariant-loop-key
invariant-loop-key l = record {
  are : l.signers.items ≡ take l.key-index l.keys;
  count : length l.signers.items ≡ l.key-index;
}
