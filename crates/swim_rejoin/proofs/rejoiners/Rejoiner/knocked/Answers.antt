use Rattle.std.proofs.Common.{List, ◌∷◌, refl, ap, get_or, sym, subst, ◌∙◌, nat_eq}
use Rattle.std.specs.List.{position}
use Rattle.swim_rejoin.specs.Histories.Event.{Knocked}
use Rattle.swim_rejoin.specs.Knowing.{after_knock}
use Rattle.swim_rejoin.specs.Rejoiners.{Follows, Kept}
use Rattle.swim_rejoin.specs.declared.known.Known.{Known}
use Rattle.swim_rejoin.proofs.Following.{Follows-knocked, changed_at, none_changed, written_over}
use Rattle.swim_rejoin.proofs.rejoiners.Rejoiner.knocked.Goals as goal

pub returns-in-Some-clause-follows : goal.returns-in-Some-clause-follows
returns-in-Some-clause-follows c = λ h f.
    let inside = c.self.inside in
    let items = inside.knowns.items in
    let place = c.in-Some.place in
    let old = c.index-deref_mut-place.result in
    let before : Kept = record { rejoin = inside.rejoin; me = inside.me; knowns = items; marks = inside.marks.marks } in
    let P : Kept → Type 0 = λ k. Follows k h in
    let Q : List Known → Type 0 =
    λ knowns. Follows (record before { knowns = knowns }) (Knocked c.args.id c.args.number ∷ h) in
    let stands = ap (position (λ (k : Known). nat_eq k.row.id c.args.id)) (sym c.as_slice.ensures.value) ∙
    sym c.place_of.ensures ∙ c.in-Some.is in
    let read = c.index-deref_mut-place.is ∙ ap (λ (xs : List Known). get_or xs place old) c.deref_mut.ensures.value in
    let made = written_over items c.deref_mut.result.now place (after_knock c.args.number) old c.knock.new.self
    c.deref_mut.ensures.value c.index-deref_mut-place.is c.knock.ensures in
    subst Q (sym made)
    (Follows-knocked before h c.args.id c.args.number _
    (changed_at items c.args.id place (after_knock c.args.number) old (λ k. refl) stands read)
    (subst P (sym c.self.view_is) f))

pub returns-in_default-clause-follows : goal.returns-in_default-clause-follows
returns-in_default-clause-follows c = λ h f.
    let inside = c.self.inside in
    let items = inside.knowns.items in
    let before : Kept = record { rejoin = inside.rejoin; me = inside.me; knowns = items; marks = inside.marks.marks } in
    let P : Kept → Type 0 = λ k. Follows k h in
    let Q : Kept → Type 0 = λ k. Follows k (Knocked c.args.id c.args.number ∷ h) in
    let stands = ap (position (λ (k : Known). nat_eq k.row.id c.args.id)) (sym c.as_slice.ensures.value) ∙
    sym c.place_of.ensures ∙ c.in_default.is in
    subst Q c.self.view_is
    (Follows-knocked before h c.args.id c.args.number items
    (none_changed items c.args.id (after_knock c.args.number) stands) (subst P (sym c.self.view_is) f))
