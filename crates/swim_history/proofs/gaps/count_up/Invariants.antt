use Rattle.std.proofs.Common.{◌≡◌, ◌≤◌, length, take}
use Rattle.std.specs.Prelude.{filter}
use Rattle.swim_history.specs.Setting.{is_state_up}
use Rattle.swim_history.proofs.gaps.count_up.Given as goal

-- the rows so far
abbrev pub invariant-loop-row : goal.invariant-loop-row
invariant-loop-row l = (l.up ≡ length (filter (λ row. is_state_up row.state) (take l.row-index l.rows))) ×
    (l.up ≤ l.row-index)
