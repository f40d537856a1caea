use Rattle.std.proofs.Common.{◌≡◌, ℕ, ◌<◌, get_or}
use Rattle.swim_keys.proofs.signers.is_same.Given as goal

-- there is no difference exactly where the bytes in front are the same
abbrev pub invariant-loop-i : goal.invariant-loop-i
invariant-loop-i l = record {
  same : l.difference ≡ 0 → (k : ℕ) → k < l.i → get_or l.first k 0 ≡ get_or l.second k 0;
  none : ((k : ℕ) → k < l.i → get_or l.first k 0 ≡ get_or l.second k 0) → l.difference ≡ 0;
}
