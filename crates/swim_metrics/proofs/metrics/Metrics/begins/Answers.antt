use Rattle.std.proofs.Common.{◌≡◌, ap, subst, sym, ◌∙◌}
use Rattle.swim_metrics.specs.Following.{Follows, Measured}
use Rattle.swim_metrics.specs.Members.{members_of}
use Rattle.swim_metrics.proofs.Carrying.{began}
use Rattle.swim_metrics.proofs.metrics.Metrics.begins.Goals as goal

pub returns-clause-follows : goal.returns-clause-follows
returns-clause-follows c = λ number lives follows.
    let P : Measured → Type 0 = λ m. Follows m lives in
    let held = subst P (sym c.self.view_is) follows in record {
      counts = c.begin.ensures number c.args.opening.now lives held.counts;
      period = c.new-self-inside.ensures;
      number = ap (λ k. k.number) c.new-self-inside-2.ensures;
    }

pub returns-clause-members : goal.returns-clause-members
returns-clause-members c = λ number lives held.
    let P : Measured → Type 0 = λ m. m.members ≡ members_of lives in
    began number c.args.opening.now lives c.as_slice.result.now c.carried-self-inside.result.items c.rows.result.now
    (c.as_slice.ensures.value ∙ subst P (sym c.self.view_is) held)
    (c.rows.ensures.value ∙ ap (λ k. k.rows) c.new-self-inside-2.ensures) c.carried-self-inside.ensures
