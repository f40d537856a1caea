use Rattle.std.proofs.Common.{◌≡◌, ◌≤◌, length, take}
use Rattle.std.specs.Prelude.{filter}
use Rattle.swim_trace.specs.Conclusions.{is_start_of}
use Rattle.swim_trace.proofs.conclusions.count_starts.Given as goal

-- the entries so far
abbrev pub invariant-loop-act : goal.invariant-loop-act
invariant-loop-act l =
    (l.count ≡ length (filter (is_start_of l.probe) (take l.act-index l.acts))) × (l.count ≤ l.act-index)
