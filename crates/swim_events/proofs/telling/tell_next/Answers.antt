use Rattle.std.proofs.Common.{◌≡◌, ◌∷◌, List, refl, sym, subst}
use Rattle.swim_history.specs.Clock.{period_number}
use Rattle.swim_history.specs.Changes.{change_by}
use Rattle.swim_events.specs.Guests.{AtGuest}
use Rattle.swim_events.specs.Telling.{AreTold}
use Rattle.swim_events.specs.Watched.{lived_on}
use Rattle.swim_events.proofs.Over.{told_next}
use Rattle.swim_events.proofs.telling.tell_next.Goals as goal

pub returns-clause-told : goal.returns-clause-told
returns-clause-told g c =
    λ life older e calls replies is are.
    let made : change_by e.call e.reply (period_number life.opening life.past) ≡ c.next-change.result =
    rw (calls, replies, c.next-change.ensures.change, is) refl in
    subst (λ (gs : List AtGuest). AreTold (lived_on life e ∷ older) gs) (sym c.tell_change.ensures)
    (told_next life older e c.next-change.result c.args.gallery.now made are)
