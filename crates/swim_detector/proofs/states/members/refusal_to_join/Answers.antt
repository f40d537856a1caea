use Rattle.std.proofs.Common.{◌≡◌, ◌≢◌, None, refl, sym, ap, ◌∙◌}
use Rattle.std.proofs.lemmas.Bool.{eqb-false}
use Rattle.swim_history.specs.Rows.{row_of}
use Rattle.swim_history.specs.Changes.{known_count}
use Rattle.swim_detector.proofs.Finding.{row_down}
use Rattle.swim_detector.proofs.Listing.{may_list}
use Rattle.swim_detector.proofs.states.members.refusal_to_join.Goals as goal

pub returns-in-Failed : goal.returns-in-Failed
returns-in-Failed c =
    let o = c.args.journal.now.opening in
    let h = c.args.journal.now.past in
    let me = c.me.ensures ∙ ap (λ x. x.me) c.opening.ensures.value in
    let other : c.args.id ≢ o.me =
    λ same. eqb-false c.args.id c.me.result (sym c.eq.ensures ∙ c.if-eq.false) (same ∙ sym me) in
    let known : row_of o h c.args.id ≡ None →
    known_count o h ≢ 128 = λ none full. cc (sym none ∙ sym c.in-Some.ensures.value) in
    may_list o h c.args.id c.opening.ensures.limits c.opening.ensures.run other
    (row_down o h c.args.id c.in-Failed.field-0 c.in-Some.row (sym c.in-Some.ensures.value) c.in-Failed.is) known

pub returns-in-None-2 : goal.returns-in-None-2
returns-in-None-2 c =
    let o = c.args.journal.now.opening in
    let h = c.args.journal.now.past in
    let me = c.me.ensures ∙ ap (λ x. x.me) c.opening.ensures.value in
    let other : c.args.id ≢ o.me =
    λ same. eqb-false c.args.id c.me.result (sym c.eq.ensures ∙ c.if-eq.false) (same ∙ sym me) in
    let room : row_of o h c.args.id ≡ None →
    known_count o h ≢ 128 = λ none full. c.if-known-eq-KNOWN_MEMBERS.false (c.known.ensures.value ∙ full) in
    may_list o h c.args.id c.opening.ensures.limits c.opening.ensures.run other (rw (← c.in-None.ensures.value) refl)
    room
