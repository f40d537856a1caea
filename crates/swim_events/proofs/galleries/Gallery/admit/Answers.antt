use Rattle.std.proofs.Common.{◌≡◌, ◌∷◌, [], ◌++◌, Bool, true, false, List, MatchBool, sym, subst}
use Rattle.swim_events.specs.Guests.{AtGuest, newcomer}
use Rattle.swim_events.specs.Telling.{AreTold, IsGuestTold}
use Rattle.swim_events.specs.Watched.{Lived}
use Rattle.swim_events.proofs.Over.{told_newcomer, told_with}
use Rattle.swim_events.proofs.galleries.Gallery.admit.Goals as goal

with_newcomer : (lives : List Lived) (old new : List AtGuest) (g : AtGuest) (comes : Bool) →
    MatchBool comes (new ≡ old ++ g ∷ []) (new ≡ old) → AreTold lives old → IsGuestTold lives g → AreTold lives new
with_newcomer lives old new g true is are told =
    subst (λ (gs : List AtGuest). AreTold lives gs) (sym is) (told_with lives old g are told)
with_newcomer lives old new g false is are told = subst (λ (gs : List AtGuest). AreTold lives gs) (sym is) are

pub returns-clause-told : goal.returns-clause-told
returns-clause-told g c =
    λ life older rows untaken are.
    with_newcomer (life ∷ older) c.args.self.now c.take_in.new.self
    (newcomer c.args.rows.now (g.E.Outlet.taken c.args.outlet) (g.E.Outlet.offers c.args.outlet)) c.take_in.result
    c.take_in.ensures are
    (told_newcomer life older c.args.rows.now (g.E.Outlet.taken c.args.outlet) (g.E.Outlet.offers c.args.outlet)
    rows untaken)
