use Rattle.std.proofs.Common.{◌≡◌, ◌^◌, ◌<◌, length, reverse, take, min, arith, sym, ap, ◌∙◌}
use Rattle.std.proofs.lemmas.Grind.{common_steps}
use Rattle.std.proofs.lemmas.List.{length-reverse, length-take}
use Rattle.swim_history.specs.Called.{entry_of}
use Rattle.swim_history.specs.Laws.Called.{called_all, called_next}
use Rattle.swim_trace.proofs.Rhythms.{one_more_follows}
use Rattle.swim_trace.proofs.beats.Rhythm.of.Goals as goal
use Rattle.swim_trace.proofs.beats.Rhythm.of.Goals.{in-Some+in_ok-note, in_default}

pub loop-place-init : goal.loop-place-init
loop-place-init c = c.new-found.ensures c.me-me.result

pub loop-place-preserved : goal.loop-place-preserved
loop-place-preserved c =
    let entries = reverse c.args.journal.now.past in
    let place = c.loop-place.place in
    let h = reverse (take place entries) in
    let there : place < length entries =
    rw (length-reverse c.args.journal.now.past)
    (omega (arith, c.loop-place-test.true, c.min-place-end.ensures, c.len.ensures.value)) in
    let counted : place ≡ length h =
    sym (length-reverse (take place entries) ∙ (length-take place entries ∙ omega (arith, there))) in
    elim c.match-called.branch [
      | in-Some+in_ok-note w ↦
          let next = called_next entries place w.in-Some.called w.in-Some.ensures in
          let e = entry_of w.in-Some.called next.0 in
          let few : place < 2 ^ 32 =
          omega (arith, c.loop-place-test.true, c.min-place-end.ensures, c.len.type_inv) in
          rw (next.1, w.found-is)
          (one_more_follows c.me-me.result place h e c.loop-place.found w.note.new.self c.loop-place.invariant
          counted few w.in_ok-note.ensures.beats w.in_ok-note.ensures.ticks)
      | in_default w ↦
          let over = called_all entries place w.in_default.ensures in absurd (omega (arith, there, over))
    ]

pub returns : goal.returns
returns c =
    let entries = reverse c.args.journal.now.past in
    let place : c.loop-place.place ≡ min c.args.confirmed (length entries) =
    rw (length-reverse c.args.journal.now.past)
    (omega (
      arith,
      c.loop-place-test.false,
      c.loop-place.auto.place-end,
      c.min-place-end.ensures,
      c.len.ensures.value,
    )) in
    let all : take c.loop-place.place entries ≡ take c.args.confirmed entries =
    ap (λ i. take i entries) place ∙ grind (arith, common_steps) in
    rw (sym all, sym c.opening.ensures.value, sym c.me-me.ensures) c.loop-place.invariant
