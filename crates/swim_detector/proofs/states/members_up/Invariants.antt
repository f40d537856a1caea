use Rattle.std.proofs.Common.{◌≡◌, ◌≤◌, length, take}
use Rattle.std.specs.Prelude.{filter}
use Rattle.swim_history.specs.Setting.{ids_of, is_state_up}
use Rattle.swim_detector.proofs.states.members_up.Given as goal

-- the members so far that are up
abbrev pub invariant-loop-row : goal.invariant-loop-row
invariant-loop-row l = record {
  are : l.members.items ≡ ids_of (filter (λ row. is_state_up row.state) (take l.row-index l.rows));
  fits : length l.members.items ≤ l.row-index;
}
