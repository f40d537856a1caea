use Rattle.std.proofs.Common.{List, min, subst, ◌≡◌, ◌<◌, length, reverse, take, arith, sym, ap, ◌∙◌}
use Rattle.std.proofs.lemmas.List.{reverse-reverse, length-reverse, length-take}
use Rattle.std.proofs.lemmas.Grind.{common_steps}
use Rattle.swim_history.specs.Laws.Called.{called_all, called_next}
use Rattle.swim_history.specs.Laws.InOrder.{run_so_far}
use Rattle.swim_history.specs.declared.entries.Entry.{Entry}
use Rattle.swim_history.specs.Run.{IsRun}
use Rattle.swim_evidence.specs.Evidence.{findings, judgements_told}
use Rattle.swim_evidence.proofs.Told.{judgements_are_told}
use Rattle.swim_evidence.proofs.walking.walk.Goals as goal
use Rattle.swim_evidence.proofs.walking.walk.Goals.{in-Some+in_ok-note, in_default}

pub loop-place-preserved : goal.loop-place-preserved
loop-place-preserved c =
    let o = c.args.journal.now.opening in
    let entries = reverse c.args.journal.now.past in
    let place = c.loop-place.place in
    let h = reverse (take place entries) in
    let there : place < length entries =
    rw (length-reverse c.args.journal.now.past)
    (omega (arith, c.loop-place-test.true, c.min-place-end.ensures, c.len.ensures.value)) in
    elim c.match-called.branch [
      | in-Some+in_ok-note w ↦
          let next = called_next entries place w.in-Some.called w.in-Some.ensures in
          let counted : place ≡ length h =
          sym (length-reverse (take place entries) ∙ (length-take place entries ∙ omega arith)) in
          rw (next.1, w.trail-is) (w.in_ok-note.ensures o h next.0 c.loop-place.invariant counted)
      | in_default w ↦
          let over = called_all entries place w.in_default.ensures in absurd (omega (arith, there, over))
    ]

pub returns-clause-judgements : goal.returns-clause-judgements
returns-clause-judgements c =
    let o = c.args.journal.now.opening in
    let entries = reverse c.args.journal.now.past in
    let first = reverse (take c.args.confirmed entries) in
    let place : c.loop-place.place ≡ min c.args.confirmed (length entries) =
    rw (length-reverse c.args.journal.now.past)
    (omega (
      arith,
      c.loop-place-test.false,
      c.loop-place.auto.place-end,
      c.min-place-end.ensures,
      c.len.ensures.value,
    )) in
    let all : take c.loop-place.place entries ≡ take c.args.confirmed entries =
    ap (λ i. take i entries) place ∙ grind (arith, common_steps) in
    let found : c.into_findings.result.findings.items ≡ findings o first =
    c.into_findings.ensures.findings ∙
    (c.loop-place.invariant.findings ∙ ap (λ (h : List Entry). findings o (reverse h)) all) in
    let run : IsRun o first =
    run_so_far o entries c.args.confirmed
    (subst (λ (h : List Entry). IsRun o h) (sym (reverse-reverse c.args.journal.now.past)) c.len.ensures.run) in
    ap judgements_told found ∙ judgements_are_told o first c.len.ensures.limits run
