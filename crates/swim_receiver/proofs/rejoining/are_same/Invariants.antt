use Rattle.std.proofs.Common.{◌≡◌, take}
use Rattle.swim_receiver.proofs.rejoining.are_same.Given as goal

abbrev pub invariant-loop-place : goal.invariant-loop-place
invariant-loop-place l = take l.place l.fn.rows ≡ take l.place l.fn.others
