use Rattle.std.proofs.Common.{◌≤◌, length, arith}
use Rattle.swim_timeline.proofs.Oldest.{oldest, oldest_more, none_left}
use Rattle.swim_timeline.proofs.Within.{shown_fits}
use Rattle.swim_timeline.proofs.pictures.show.Goals as goal
use Rattle.swim_timeline.proofs.pictures.show.Goals.{in-Some+in_ok-note, in_default}

pub note-requires-clause-ticks : goal.note-requires-clause-ticks
note-requires-clause-ticks c =
    let journal = c.args.journal.now in
    let fits = shown_fits journal.opening journal.past c.loop-place.place c.args.span.first c.args.span.until
    c.loop-place.shown c.len-place-end.ensures.limits c.len-place-end.ensures.run c.loop-place.invariant.1 in
    omega (arith, fits.ticks)

pub note-requires-clause-entries : goal.note-requires-clause-entries
note-requires-clause-entries c =
    let journal = c.args.journal.now in
    let fits = shown_fits journal.opening journal.past c.loop-place.place c.args.span.first c.args.span.until
    c.loop-place.shown c.len-place-end.ensures.limits c.len-place-end.ensures.run c.loop-place.invariant.1 in
    omega (arith, fits.entries)

pub note-requires-clause-number : goal.note-requires-clause-number
note-requires-clause-number c =
    let journal = c.args.journal.now in
    let fits = shown_fits journal.opening journal.past c.loop-place.place c.args.span.first c.args.span.until
    c.loop-place.shown c.len-place-end.ensures.limits c.len-place-end.ensures.run c.loop-place.invariant.1 in
    rw c.opening-opening.ensures.value fits.number

pub loop-place-preserved : goal.loop-place-preserved
loop-place-preserved c =
    let journal = c.args.journal.now in
    let place = c.loop-place.place in
    elim c.match-called.branch [
      | in-Some+in_ok-note w ↦
          let more = oldest_more journal.past place w.in-Some.called w.in-Some.ensures in
          let drawn = w.in_ok-note.ensures.drawn (oldest place journal.past) more.0
          (rw c.opening-opening.ensures.value c.loop-place.invariant.1) in
          rw (more.1, w.shown-is)
          (rw w.in_ok-note.ensures.before c.loop-place.invariant.0, rw (← c.opening-opening.ensures.value) drawn)
      | in_default w ↦
          let none : length journal.past ≤ place = none_left journal.past place w.in_default.ensures in
          absurd (omega (arith, none, c.loop-place-test.true, c.len-place-end.ensures.value))
    ]
