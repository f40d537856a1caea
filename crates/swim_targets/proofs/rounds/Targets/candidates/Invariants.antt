use Rattle.std.proofs.Common.{◌≡◌, ◌≤◌, length, take}
use Rattle.swim_wire.specs.Ids.{without}
use Rattle.swim_targets.proofs.rounds.Targets.candidates.Given as goal

abbrev pub invariant-loop-member : goal.invariant-loop-member
invariant-loop-member l = record {
  others_are : l.others.items ≡ without l.except (take l.member-index l.member-items);
  fits : length l.others.items ≤ l.member-index;
}
