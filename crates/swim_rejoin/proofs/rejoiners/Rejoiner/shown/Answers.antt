use Rattle.std.proofs.Common.{List, Bool, ap, get_or, sym, ◌∙◌, nat_eq}
use Rattle.std.specs.List.{position}
use Rattle.std.specs.Option.{option_and_then}
use Rattle.swim_wire.specs.Messages.{Message}
use Rattle.swim_rejoin.specs.Rejoiners.{Kept, shown_by, shown_of}
use Rattle.swim_rejoin.specs.declared.known.Known.{Known}
use Rattle.swim_rejoin.proofs.Finding.{find-at_none, find-at_position}
use Rattle.swim_rejoin.proofs.rejoiners.Rejoiner.shown.Goals as goal

pub returns-in-Some-clause-value : goal.returns-in-Some-clause-value
returns-in-Some-clause-value c =
    let items = c.self.inside.knowns.items in
    let m = c.args.message.now in
    let from = c.args.from.now in
    let place = c.in-Some.place in
    let known = c.index-deref-place.result in
    let p : Known → Bool = λ k. nat_eq k.row.id m.sender in
    let stands = ap (position p) (sym c.as_slice.ensures.value)
    ∙ ap (λ id. position (λ (k : Known). nat_eq k.row.id id) c.as_slice.result.now)
    (sym (ap (λ (m : Message). m.sender) c.message.view_is))
    ∙ sym c.place_of.ensures ∙ c.in-Some.is in
    let read = c.index-deref-place.is ∙ ap (λ (xs : List Known). get_or xs place known) c.deref.ensures.0 in
    c.shown.ensures
    ∙ ap (option_and_then (shown_of c.self.inside.me m from)) (sym (find-at_position p items place known stands read))
    ∙ ap (λ (k : Kept). shown_by k m from) c.self.view_is

pub returns-in-None-clause-value : goal.returns-in-None-clause-value
returns-in-None-clause-value c =
    let items = c.self.inside.knowns.items in
    let m = c.args.message.now in
    let from = c.args.from.now in
    let p : Known → Bool = λ k. nat_eq k.row.id m.sender in
    let stands = ap (position p) (sym c.as_slice.ensures.value)
    ∙ ap (λ id. position (λ (k : Known). nat_eq k.row.id id) c.as_slice.result.now)
    (sym (ap (λ (m : Message). m.sender) c.message.view_is))
    ∙ sym c.place_of.ensures ∙ c.in-None.is in
    ap (option_and_then (shown_of c.self.inside.me m from)) (sym (find-at_none p items stands))
    ∙ ap (λ (k : Kept). shown_by k m from) c.self.view_is
