use Rattle.std.proofs.Common.{◌∷◌, List, ℕ, ◌<◌, length, subst, sym, ◌∙◌, ap, arith}
use Rattle.std.specs.Result.{result_ok}
use Rattle.std.proofs.lemmas.Bool.{eqb-true, eqb-false}
use Rattle.swim_text.specs.Words.{words_by}
use Rattle.swim_script.proofs.OrderParts.{Reading, reads_kept, reads_too_many}
use Rattle.swim_script.proofs.arguments.read_order.Goals as goal

pub loop-part-preserved-then-is_full : goal.loop-part-preserved-then-is_full
loop-part-preserved-then-is_full c =
    let parts = words_by 44 c.args.text.now in
    let order = c.loop-part.order.items in
    let read : Reading parts (c.in-Some.part.now ∷ c.next.new.self) order c.loop-part.fits =
    subst (λ (left : List (List ℕ)). Reading parts left order c.loop-part.fits) c.in-Some.ensures
    c.loop-part.invariant in
    reads_too_many parts c.next.new.self c.in-Some.part.now order c.loop-part.fits c.in_ok-id.id read
    (sym c.read.ensures.exact ∙ (c.ok_or.ensures.ok_part ∙ ap result_ok c.in_ok-id.was))
    (eqb-true (length order) 128 (sym c.is_full.ensures.value ∙ c.if-is_full.true))

pub loop-part-preserved : goal.loop-part-preserved
loop-part-preserved c =
    let parts = words_by 44 c.args.text.now in
    let order = c.loop-part.order.items in
    let read : Reading parts (c.in-Some.part.now ∷ c.next.new.self) order c.loop-part.fits =
    subst (λ (left : List (List ℕ)). Reading parts left order c.loop-part.fits) c.in-Some.ensures
    c.loop-part.invariant in
    let open_yet = eqb-false (length order) 128 (sym c.is_full.ensures.value ∙ c.if-is_full.false) in
    let room : length order < 128 = omega (arith, c.is_full.ensures.fits, open_yet) in
    subst (λ (kept : List ℕ). Reading parts c.next.new.self kept c.loop-part.fits) (sym c.push.ensures.items)
    (reads_kept parts c.next.new.self c.in-Some.part.now order c.loop-part.fits c.in_ok-id.id read
    (sym c.read.ensures.exact ∙ (c.ok_or.ensures.ok_part ∙ ap result_ok c.in_ok-id.was)) room)
