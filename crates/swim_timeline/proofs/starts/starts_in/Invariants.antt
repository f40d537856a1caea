use Rattle.std.proofs.Common.{◌≡◌, reverse, take}
use Rattle.swim_history.specs.Clock.{ticks}
use Rattle.swim_timeline.specs.Starts.{starts}
use Rattle.swim_timeline.proofs.starts.starts_in.Given as goal

-- what was found among the entries so far
abbrev pub invariant-loop-place : goal.invariant-loop-place
invariant-loop-place l =
    (l.ticks ≡ ticks (reverse (take l.place (reverse l.journal.past))))
    × (l.found.items ≡ starts l.span.first l.span.until l.times (reverse (take l.place (reverse l.journal.past))))
