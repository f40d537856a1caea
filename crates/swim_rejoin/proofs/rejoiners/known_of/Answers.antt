use Rattle.std.proofs.Common.{ap, sym, ◌∙◌, nat_eq}
use Rattle.swim_rejoin.specs.Knowing.{known_now}
use Rattle.swim_rejoin.specs.declared.known.Known.{Known}
use Rattle.swim_rejoin.proofs.Finding.{find-at_none, find-at_position}
use Rattle.swim_rejoin.proofs.rejoiners.known_of.Goals as goal

pub returns-in-Some : goal.returns-in-Some
returns-in-Some c =
    let stands = sym c.place_of.ensures ∙ c.in-Some.is in
    c.again.ensures
    ∙ ap (known_now c.args.row.now)
    (sym (find-at_position (λ (k : Known). nat_eq k.row.id c.args.row.now.id) c.args.knowns.now c.in-Some.place
    c.index-knowns-place.result stands c.index-knowns-place.is))

pub returns-in-None : goal.returns-in-None
returns-in-None c =
    let stands = sym c.place_of.ensures ∙ c.in-None.is in
    c.first.ensures
    ∙ ap (known_now c.args.row.now)
    (sym (find-at_none (λ (k : Known). nat_eq k.row.id c.args.row.now.id) c.args.knowns.now stands))
