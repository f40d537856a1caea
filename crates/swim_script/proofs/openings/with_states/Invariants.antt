use Rattle.std.proofs.Common.{◌≡◌, drop}
use Rattle.swim_script.proofs.States.{with_all}
use Rattle.swim_script.proofs.openings.with_states.Given as goal

-- with the states that are left it comes to what it comes to with all of them
abbrev pub invariant-loop-row : goal.invariant-loop-row
invariant-loop-row l = with_all (drop l.row-index l.rows) l.told ≡ with_all l.rows l.fn.opening
