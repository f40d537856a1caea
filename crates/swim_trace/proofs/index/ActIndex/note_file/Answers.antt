use Rattle.std.proofs.Common.{◌≡◌, ◌<◌, length, reverse, take, min, arith, sym, ap, ◌∙◌}
use Rattle.std.proofs.lemmas.Grind.{common_steps}
use Rattle.std.proofs.lemmas.List.{length-reverse, length-take}
use Rattle.swim_history.specs.Called.{entry_of}
use Rattle.swim_history.specs.Laws.Called.{called_all, called_next}
use Rattle.swim_trace.specs.Acts.{act_by, spot_at}
use Rattle.swim_trace.proofs.Keeping.{none_kept, one_more_kept, wanted_kept}
use Rattle.swim_trace.proofs.index.ActIndex.note_file.Goals as goal
use Rattle.swim_trace.proofs.index.ActIndex.note_file.Goals.{in-Some+in_ok-note, in_default}

pub loop-place-init : goal.loop-place-init
loop-place-init c = (λ n wanted. wanted, λ runs knows file. none_kept runs c.me-me.result c.args.self.now knows)

pub loop-place-preserved : goal.loop-place-preserved
loop-place-preserved c =
    let entries = reverse c.args.journal.now.past in
    let place = c.loop-place.place in
    let file = c.args.file in
    let me = c.me-me.result in
    let h = reverse (take place entries) in
    let there : place < length entries =
    rw (length-reverse c.args.journal.now.past)
    (omega (arith, c.loop-place-test.true, c.min-place-end.ensures, c.len.ensures.value)) in
    let counted : place ≡ length h =
    sym (length-reverse (take place entries) ∙ (length-take place entries ∙ omega (arith, there))) in
    elim c.match-called.branch [
      | in-Some+in_ok-note w ↦
          let next = called_next entries place w.in-Some.called w.in-Some.ensures in
          let e = entry_of w.in-Some.called next.0 in
          let old = c.loop-place.self in
          let new = w.note.new.self in
          rw (next.1, w.self-is) (
            λ n wanted.
                wanted_kept (act_by (spot_at file place) me e.call e.reply) old new w.in_ok-note.ensures n
                (c.loop-place.invariant.0 n wanted),
            λ runs knows counts.
                one_more_kept runs me file place h e old new counts counted (c.loop-place.invariant.1 runs knows counts)
                w.in_ok-note.ensures,
          )
      | in_default w ↦
          let over = called_all entries place w.in_default.ensures in absurd (omega (arith, there, over))
    ]

pub returns-clause-knows : goal.returns-clause-knows
returns-clause-knows c =
    let entries = reverse c.args.journal.now.past in
    let place : c.loop-place.place ≡ min c.args.confirmed (length entries) =
    rw (length-reverse c.args.journal.now.past)
    (omega (
      arith,
      c.loop-place-test.false,
      c.loop-place.auto.place-end,
      c.min-place-end.ensures,
      c.len.ensures.value,
    )) in
    let all : take c.loop-place.place entries ≡ take c.args.confirmed entries =
    ap (λ i. take i entries) place ∙ grind (arith, common_steps) in
    λ runs knows file.
    rw (sym all, sym c.opening.ensures.value, sym c.me-me.ensures) (c.loop-place.invariant.1 runs knows file)
