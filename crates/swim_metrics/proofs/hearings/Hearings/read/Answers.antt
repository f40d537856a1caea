use Rattle.std.proofs.Common.{List, subst, sym}
use Rattle.swim_metrics.specs.declared.hearings.LastHearing.{LastHearing}
use Rattle.swim_metrics.specs.LastHeard.{Tell}
use Rattle.swim_metrics.proofs.LastHeard.{once_then, tell_then}
use Rattle.swim_metrics.proofs.hearings.Hearings.read.Goals as goal

pub invariant_of-self : goal.invariant_of-self
invariant_of-self c =
    rw c.read.ensures (once_then c.args.call.now c.args.reply.now c.self.inside.rows.items c.self.invariant)

pub returns : goal.returns
returns c = λ o h e s run calls replies tell.
    let P : List LastHearing → Type 0 = λ rows. Tell rows o h in
    tell_then o h e c.args.call.now c.args.reply.now c.self.inside.rows.items c.read.new.rows.items s run calls replies
    c.self.invariant (subst P (sym c.self.view_is) tell) c.read.ensures
