use Rattle.std.proofs.Common.{rules, subst}
use Rattle.swim_work.specs.Noting.{Begins}
use Rattle.swim_ticker.proofs.Knocked.{one_more_knocked}
use Rattle.swim_ticker.proofs.knocking.Knocking.start.Goals as goal

pub returns : goal.returns
returns g c =
    let old = c.args.self.now in
    let rows = c.look.new.table.items in
    one_more_knocked g.N.Naming.opening old.knocker c.begin-knock.new.knocker old.viewer c.look.new.viewer
    old.table.items rows old.number
    c.saturating_add-number.result c.rejoin-rejoin.result c.args.lookup.now c.rejoin-rejoin.new.self
    c.begin-knock.result (g.O.Post.posted c.args.post.now)
    (g.O.Post.posted c.send-count.new.post) old.knocks c.send-count.result c.saturating_add-knocks.result
    c.look.ensures.later c.look.ensures.look (search rules) c.rejoin-rejoin.ensures
    (subst (λ n. Begins old.knocker c.rejoin-rejoin.result rows n c.begin-knock.result c.begin-knock.new.knocker)
    c.period_of-period.ensures (subst (λ r. Begins old.knocker c.rejoin-rejoin.result r c.period_of-period.result
    c.begin-knock.result
    c.begin-knock.new.knocker) (search rules) c.begin-knock.ensures))
    c.send-count.ensures (search rules)
