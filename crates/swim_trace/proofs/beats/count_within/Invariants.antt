use Rattle.std.proofs.Common.{◌≡◌, ◌≤◌, length, take}
use Rattle.std.specs.Prelude.{filter}
use Rattle.swim_trace.specs.Beats.{is_within}
use Rattle.swim_trace.proofs.beats.count_within.Given as goal

-- the pings so far
abbrev pub invariant-loop-one : goal.invariant-loop-one
invariant-loop-one l =
    (l.count ≡ length (filter (is_within l.last l.latest) (take l.one-index l.kept))) × (l.count ≤ l.one-index)
