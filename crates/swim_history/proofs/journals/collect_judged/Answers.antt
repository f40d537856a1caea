use Rattle.std.proofs.Common.{◌≡◌, ◌<◌, ◌^◌, ◌∷◌, ◌+◌, length, take, reverse, refl, sym, ap, append-nil, ◌∙◌, arith}
use Rattle.swim_history.specs.Judgement.{judgements}
use Rattle.swim_history.specs.Laws.Run.{number_then}
use Rattle.swim_history.specs.Laws.Judgement.{judges_by_rule}
use Rattle.swim_history.specs.Laws.InOrder.{past_more, next_continues}
use Rattle.swim_history.proofs.InOrder.{no_entry, entry_at, entry_there, unspent_at, begins_it, begins_nothing}
use Rattle.swim_history.proofs.journals.collect_judged.Goals as goal
use Rattle.swim_history.proofs.journals.collect_judged.Goals.{in-Some+in_ok-note_judged, in_default}

pub overflow_add-number : goal.overflow_add-number
overflow_add-number c =
    let o = c.args.opening.now in
    let entries = c.args.entries.now.items in
    let place = c.loop-place.place in
    let e = entry_at entries place in
    let there : place < length entries = omega (arith, c.len-place-end.ensures, c.loop-place-test.true) in
    let follows = next_continues o entries place e there (entry_there entries place there) c.requires in
    let begins = begins_it e.reply c.in-Some.start (c.in-Some.ensures no_entry) in
    let unspent : c.loop-place.number + 1 < 2 ^ 64 =
    rw c.loop-place.invariant.now (unspent_at o (reverse (take place entries)) e follows begins.starts) in
    omega arith

pub loop-place-preserved : goal.loop-place-preserved
loop-place-preserved c =
    let o = c.args.opening.now in
    let entries = c.args.entries.now.items in
    let place = c.loop-place.place in
    let e = entry_at entries place in
    let h = reverse (take place entries) in
    let there : place < length entries = omega (arith, c.len-place-end.ensures, c.loop-place-test.true) in
    let is = entry_there entries place there in
    let follows = next_continues o entries place e there is c.requires in
    let more : reverse (take (place + 1) entries) ≡ e ∷ h = past_more entries place e there ∙
    ap (λ x. x ∷ h) (sym is) in
    let number = number_then o h e c.last-number.ensures.limits follows in
    elim c.match-start.branch [
      | in-Some+in_ok-note_judged w ↦
          let begins = begins_it e.reply w.in-Some.start (w.in-Some.ensures no_entry) in
          record {
            told = rw (
              more,
              w.judged-is,
              w.in_ok-note_judged.ensures,
              c.loop-place.invariant.told,
              c.loop-place.invariant.now,
              begins.judged,
            ) refl;
            now = rw (more, w.number-is, c.loop-place.invariant.now) (sym (rw begins.starts at number));
          }
      | in_default w ↦
          let begins = begins_nothing e.reply (w.in_default.ensures no_entry) in
          record {
            told = rw (more, w.judged-is, c.loop-place.invariant.told, begins.no_judged)
                (sym (append-nil (judgements o h)));
            now = rw (more, w.number-is, c.loop-place.invariant.now) (sym (rw begins.no_start at number));
          }
    ]

pub returns-in_err-note_judged-clause-rule : goal.returns-in_err-note_judged-clause-rule
returns-in_err-note_judged-clause-rule c = judges_by_rule _ _ c.last-number.ensures.limits c.requires

pub returns-clause-rule : goal.returns-clause-rule
returns-clause-rule c = judges_by_rule _ _ c.last-number.ensures.limits c.requires
