use Rattle.std.proofs.Common.{◌≡◌, reverse, take}
use Rattle.swim_history.specs.Clock.{ticks}
use Rattle.swim_timeline.specs.Shown.{Begins}
use Rattle.swim_timeline.proofs.earlier_runs.begin_at.Given as goal

-- what the entries so far came to
abbrev pub invariant-loop-place : goal.invariant-loop-place
invariant-loop-place l =
    (l.ticks ≡ ticks (reverse (take l.place (reverse l.journal.past))))
    × Begins l.opening (reverse (take l.place (reverse l.journal.past))) l.first l.beginning
