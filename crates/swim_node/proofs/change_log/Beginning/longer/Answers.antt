use Rattle.std.proofs.Common.{◌≤◌, length, List, inl, inr, ap, subst, arith}
use mathlib.Core.List.{IsPrefix}
use Rattle.swim_history.specs.declared.rows.Change.{Change}
use Rattle.swim_node.proofs.Prefixes.{prefix_shorter}
use Rattle.swim_node.proofs.change_log.Beginning.longer.Goals as goal

pub returns-then-self-other-clause-longer : goal.returns-then-self-other-clause-longer
returns-then-self-other-clause-longer c =
    let both = c.learn.new.self.log in
    let this : IsPrefix c.self.inside.seen.log both =
    subst (λ (l : List Change). IsPrefix l both) (ap (λ s. s.log) c.again-both.ensures) c.learn.ensures.2 in
    let less : length c.self.inside.seen.log ≤ length c.other.inside.seen.log =
    omega (arith, c.self.invariant, c.other.invariant) in
    inl (
      rw (← c.self.view_is, ← c.other.view_is)
          (prefix_shorter c.self.inside.seen.log c.other.inside.seen.log both this c.learn.ensures.3 less),
      ap (λ b. b.changes) c.again.ensures,
    )

pub returns-clause-longer : goal.returns-clause-longer
returns-clause-longer c =
    let both = c.learn.new.self.log in
    let this : IsPrefix c.self.inside.seen.log both =
    subst (λ (l : List Change). IsPrefix l both) (ap (λ s. s.log) c.again-both.ensures) c.learn.ensures.2 in
    let less : length c.other.inside.seen.log ≤ length c.self.inside.seen.log =
    omega (arith, c.self.invariant, c.other.invariant) in
    inr (
      rw (← c.self.view_is, ← c.other.view_is)
          (prefix_shorter c.other.inside.seen.log c.self.inside.seen.log both c.learn.ensures.3 this less),
      ap (λ b. b.changes) c.again-else-self-other.ensures,
    )
