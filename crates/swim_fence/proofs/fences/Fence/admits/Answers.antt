use Rattle.std.proofs.Common.{◌∷◌, ap, arith, subst, sym}
use Rattle.swim_fence.specs.Fences.{Follows, Kept}
use Rattle.swim_fence.specs.Histories.Event.{Asked}
use Rattle.swim_fence.proofs.Following.{Follows-asked}
use Rattle.swim_fence.proofs.fences.Fence.admits.Goals as goal

pub returns-else-self-eq0-clause-follows : goal.returns-else-self-eq0-clause-follows
returns-else-self-eq0-clause-follows c = λ h f.
    let P : Kept → Type 0 = λ k. Follows k (Asked c.args.from.now c.args.now ∷ h) in
    subst P (sym c.ask.ensures.after)
    (Follows-asked c.args.self.now h c.args.from.now c.args.now c.ask.ensures.room
    (omega (arith, ap (λ (k : Kept). k.rate) c.self.view_is)) f)
