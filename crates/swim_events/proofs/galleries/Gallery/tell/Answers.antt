use Rattle.std.proofs.Common.{◌≡◌, ◌∷◌, [], List, map, ap, ◌∙◌, sym, subst}
use Rattle.swim_events.specs.Guests.{AtGuest, put_text}
use Rattle.swim_events.specs.Telling.{AreTold}
use Rattle.swim_events.specs.Texts.{event_text, life_text}
use Rattle.swim_events.proofs.Over.{told_life}
use Rattle.swim_events.proofs.galleries.Gallery.tell.Goals as goal

pub returns-clause-life : goal.returns-clause-life
returns-clause-life g c =
    λ lives number o is are.
    let put : c.put_each.new.self ≡ map (put_text (life_text number)) c.args.self.now =
    c.put_each.ensures ∙ ap (λ e. map (put_text (event_text e)) c.args.self.now) is in
    subst (λ (gs : List AtGuest). AreTold (record { number = number; opening = o; past = [] } ∷ lives) gs) (sym put)
    (told_life lives number o c.args.self.now are)
