use Rattle.std.proofs.Common.{reverse, take}
use Rattle.swim_timeline.specs.Shown.{Begins, Draws}
use Rattle.swim_timeline.proofs.pictures.show.Given as goal

-- what is drawn of the entries so far
abbrev pub invariant-loop-place : goal.invariant-loop-place
invariant-loop-place l =
    Begins l.journal.opening l.journal.past l.span.first l.shown.before
    × Draws l.journal.opening (reverse (take l.place (reverse l.journal.past))) l.span.first l.span.until l.shown
