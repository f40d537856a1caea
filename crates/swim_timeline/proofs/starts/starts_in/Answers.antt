use Rattle.std.proofs.Common.{◌≡◌, ◌≤◌, length, Option, ap, ◌∙◌, arith}
use Rattle.swim_history.specs.Called.{entry_of}
use Rattle.swim_timeline.specs.declared.times.StartTime.{StartTime}
use Rattle.swim_timeline.specs.Starts.{start_by}
use Rattle.swim_timeline.proofs.Oldest.{oldest, oldest_count, oldest_more, none_left}
use Rattle.swim_timeline.proofs.Timed.{starts_more}
use Rattle.swim_timeline.proofs.Within.{ticks_fit}
use Rattle.swim_timeline.proofs.starts.starts_in.Goals as goal
use Rattle.swim_timeline.proofs.starts.starts_in.Goals.{in-Some+in_ok-add_start, in_default}

pub ticks_with-ticks-requires : goal.ticks_with-ticks-requires
ticks_with-ticks-requires c =
    omega (
      arith,
      c.loop-place.invariant.0,
      ticks_fit c.args.journal.now.past c.loop-place.place,
      c.loop-place-test.true,
    )

pub loop-place-preserved : goal.loop-place-preserved
loop-place-preserved c =
    let past = c.args.journal.now.past in
    let place = c.loop-place.place in
    let span = c.args.span in
    let times = c.args.times.now in
    let older = oldest place past in
    let within : place ≤ length past = omega (arith, c.loop-place-test.true, c.len-place-end.ensures.value) in
    let count : length older ≡ place = oldest_count past place within in
    elim c.match-called.branch [
      | in-Some+in_ok-add_start w ↦
          let more = oldest_more past place w.in-Some.called w.in-Some.ensures in
          let entry = entry_of w.in-Some.called more.0 in
          let tick = w.ticks_with-ticks.result in
          let now = w.ticks_with-ticks.ensures older more.0 c.loop-place.invariant.0 in
          let by = w.start_by.ensures ∙
          ap (λ (t : Option StartTime). start_by span.first span.until tick t entry.reply) w.time_at.ensures in
          rw (more.1, w.ticks-is, w.found-is, w.in_ok-add_start.ensures) (
            now,
            starts_more span.first span.until place tick times entry older c.loop-place.found.items w.start_by.result
                count now c.loop-place.invariant.1 by,
          )
      | in_default w ↦
          let none : length past ≤ place = none_left past place w.in_default.ensures in
          absurd (omega (arith, none, c.loop-place-test.true, c.len-place-end.ensures.value))
    ]
