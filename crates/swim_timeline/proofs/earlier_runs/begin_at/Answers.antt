use Rattle.std.proofs.Common.{◌≡◌, ℕ, ◌+◌, ◌≤◌, ◌<◌, ◌∷◌, List, length, sym, ap, subst, ◌∙◌, arith}
use Rattle.swim_history.specs.declared.entries.Entry.{Entry}
use Rattle.swim_history.specs.Called.{entry_of}
use Rattle.swim_history.specs.Setting.{Setting}
use Rattle.swim_history.specs.Clock.{number_at, ticks}
use Rattle.swim_history.specs.Run.{IsRun}
use Rattle.swim_timeline.proofs.Oldest.{oldest, oldest_length, oldest_more, oldest_run, none_left}
use Rattle.swim_timeline.proofs.Within.{number_fits, ticks_fit, ticks_more}
use Rattle.swim_timeline.proofs.Starting.{begins_ascending, begins_few, begins_fits, begins_more, begins_still}
use Rattle.swim_timeline.proofs.earlier_runs.begin_at.Goals as goal
use Rattle.swim_timeline.proofs.earlier_runs.begin_at.Goals.{in-Some+then-ticks-first, in-Some+else-ticks-first}
use Rattle.swim_timeline.proofs.earlier_runs.begin_at.Goals.{in_default}

pub number_at-ended-requires : goal.number_at-ended-requires
number_at-ended-requires c =
    let journal = c.args.journal.now in
    rw (c.opening-opening.ensures.value, c.loop-place.invariant.0)
    (number_fits journal.opening journal.past c.loop-place.place c.opening-opening.ensures.limits
    c.opening-opening.ensures.run)

pub ticks_with-ticks-requires : goal.ticks_with-ticks-requires
ticks_with-ticks-requires c =
    omega (
      arith,
      c.loop-place.invariant.0,
      ticks_fit c.args.journal.now.past c.loop-place.place,
      c.loop-place-test.true,
    )

pub add-requires-clause-entries : goal.add-requires-clause-entries
add-requires-clause-entries c =
    let older = oldest c.loop-place.place c.args.journal.now.past in
    omega (
      arith,
      begins_few c.opening-opening.result.now older c.args.first c.loop-place.beginning c.loop-place.invariant.1,
      oldest_length c.args.journal.now.past c.loop-place.place,
      c.loop-place-test.true,
    )

pub add-requires-clause-ascends : goal.add-requires-clause-ascends
add-requires-clause-ascends c =
    begins_ascending c.opening-opening.result.now (oldest c.loop-place.place c.args.journal.now.past) c.args.first
    c.loop-place.beginning c.loop-place.invariant.1

pub add-requires-clause-fits : goal.add-requires-clause-fits
add-requires-clause-fits c =
    let journal = c.args.journal.now in
    let place = c.loop-place.place in
    let o = c.opening-opening.result.now in
    let older = oldest place journal.past in
    let more = oldest_more journal.past place c.in-Some.called c.in-Some.ensures in
    let entry = entry_of c.in-Some.called more.0 in
    let run : IsRun journal.opening (entry ∷ older) = subst (λ (l : List Entry). IsRun journal.opening l) more.1
    (oldest_run journal.opening journal.past (place + 1) c.opening-opening.ensures.run) in
    let now = c.ticks_with-ticks.ensures older more.0 c.loop-place.invariant.0 in
    let few : ticks older < c.args.first = omega (arith, ticks_more entry older, now, c.if-ticks-first.true) in
    let ended = c.number_at-ended.ensures ∙ ap (λ (t : ℕ). number_at o.last o.period t) c.loop-place.invariant.0 in
    begins_fits o older entry c.args.first c.number_at-ended.result c.loop-place.beginning
    (rw c.opening-opening.ensures.value c.opening-opening.ensures.limits)
    (subst (λ (s : Setting). IsRun s (entry ∷ older)) (sym c.opening-opening.ensures.value) run) few ended
    c.loop-place.invariant.1

pub loop-place-preserved : goal.loop-place-preserved
loop-place-preserved c =
    let journal = c.args.journal.now in
    let place = c.loop-place.place in
    let o = c.opening-opening.result.now in
    let older = oldest place journal.past in
    elim c.match-called.branch [
      | in-Some+then-ticks-first w ↦
          let more = oldest_more journal.past place w.in-Some.called w.in-Some.ensures in
          let entry = entry_of w.in-Some.called more.0 in
          let now = w.ticks_with-ticks.ensures older more.0 c.loop-place.invariant.0 in
          let few : ticks (entry ∷ older) < c.args.first = omega (arith, now, w.if-ticks-first.true) in
          let few_before : ticks older < c.args.first = omega (arith, ticks_more entry older, few) in
          let ended = w.number_at-ended.ensures ∙
          ap (λ (t : ℕ). number_at o.last o.period t) c.loop-place.invariant.0 in
          rw (more.1, w.ticks-is, w.beginning-is) (
            now,
            begins_more o older entry c.args.first w.number_at-ended.result c.loop-place.beginning _ few_before few
                ended c.loop-place.invariant.1
                w.add.ensures.entries w.add.ensures.rows,
          )
      | in-Some+else-ticks-first w ↦
          let more = oldest_more journal.past place w.in-Some.called w.in-Some.ensures in
          let entry = entry_of w.in-Some.called more.0 in
          let now = w.ticks_with-ticks.ensures older more.0 c.loop-place.invariant.0 in
          let many : c.args.first ≤ ticks (entry ∷ older) = omega (arith, now, w.if-ticks-first.false) in
          rw (more.1, w.ticks-is, w.beginning-is)
          (now, begins_still o older entry c.args.first c.loop-place.beginning many c.loop-place.invariant.1)
      | in_default w ↦
          let none : length journal.past ≤ place = none_left journal.past place w.in_default.ensures in
          absurd (omega (arith, none, c.loop-place-test.true, c.len-place-end.ensures.value))
    ]
