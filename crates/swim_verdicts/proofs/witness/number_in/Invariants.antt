-- The number so far is what the digits so far tell.
use Rattle.std.proofs.Common.{◌≡◌, ◌-◌, ◌^◌, min, take}
use Rattle.swim_verdicts.proofs.Digits.{read_on}
use Rattle.swim_verdicts.proofs.witness.number_in.Given as goal

abbrev pub invariant-loop-digit : goal.invariant-loop-digit
invariant-loop-digit l = l.number ≡ min (read_on 0 (take l.digit-index l.digits)) (2 ^ 64 - 1)
