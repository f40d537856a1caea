use Rattle.std.proofs.Common.{◌≤◌, length, List, ap, subst, arith}
use Rattle.std.proofs.lemmas.Bool.{leb-true}
use mathlib.Core.List.{IsPrefix}
use Rattle.swim_history.specs.declared.rows.Change.{Change}
use Rattle.swim_node.proofs.Prefixes.{prefix_shorter}
use Rattle.swim_node.proofs.change_log.Beginning.begins.Goals as goal

pub returns : goal.returns
returns c not_longer =
    let both = c.learn.new.self.log in
    let this : IsPrefix c.self.inside.seen.log both =
    subst (λ (l : List Change). IsPrefix l both) (ap (λ s. s.log) c.again-both.ensures) c.learn.ensures.2 in
    let less : length c.self.inside.seen.log ≤ length c.other.inside.seen.log =
    omega (arith, c.self.invariant, c.other.invariant, leb-true c.self.inside.len c.other.inside.len not_longer) in
    rw (← c.self.view_is, ← c.other.view_is)
    (prefix_shorter c.self.inside.seen.log c.other.inside.seen.log both this c.learn.ensures.3 less)
