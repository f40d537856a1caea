use Rattle.std.proofs.Common.{◌≡◌, ℕ, ◌<◌, ◌≤◌, length, get_or, bit_xor}
use Rattle.swim_keys.proofs.hmacs.begun.Given as goal

-- the bytes in front are masked, the others as they were
abbrev pub invariant-loop-byte : goal.invariant-loop-byte
invariant-loop-byte l = record {
  whole : length l.byte-items ≡ 64;
  masked : (k : ℕ) → k < l.byte-index → get_or l.byte-items k 0 ≡ bit_xor (get_or l.block k 0) l.mask;
  unmasked : (k : ℕ) → l.byte-index ≤ k → get_or l.byte-items k 0 ≡ get_or l.block k 0;
}
