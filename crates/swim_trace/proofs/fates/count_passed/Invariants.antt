use Rattle.std.proofs.Common.{◌≡◌, ◌≤◌, length, take}
use Rattle.std.specs.Prelude.{filter}
use Rattle.swim_trace.specs.Fates.{is_passed_on}
use Rattle.swim_trace.proofs.fates.count_passed.Given as goal

-- the entries so far
abbrev pub invariant-loop-act : goal.invariant-loop-act
invariant-loop-act l =
    (l.count ≡ length (filter (is_passed_on l.probe l.leg) (take l.act-index l.acts))) × (l.count ≤ l.act-index)
