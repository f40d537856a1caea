use Rattle.std.proofs.Common.{refl, rules}
use Rattle.swim_ticker.specs.Knocking.{at_knocking}
use Rattle.swim_ticker.specs.Ticking.{owned}
use Rattle.swim_ticker.proofs.Living.{life_ticked}
use Rattle.swim_ticker.proofs.tickers.TickerWorker.work.Goals as goal

pub returns-clause-works : goal.returns-clause-works
returns-clause-works g c =
    let old = c.args.self.now in
    let new = c.tick_on-why.new.self in
    let ticking = c.tick_on-why.new.ticking in
    let knocked = g.O.Post.posted old.knock_post in
    rw c.done.ensures.seat (life_ticked g.O.Post.posted g.N.Naming.opening g.N.Naming.limit
    (owned (g.P.Pace.beats old.pace) old.post knocked old.lookup old.knocks)
    (owned (g.P.Pace.beats new.pace) new.post (g.O.Post.posted new.knock_post) new.lookup c.saturating_add-self.result)
    c.new.result.seat ticking.caller.seat c.new.result.counts ticking.caller.counts c.tick_on-why.result
    c.done.result.end
    (at_knocking c.new-2.result.knocker c.new-2.result.viewer c.new-2.result.table.items c.new-2.result.number
    old.lookup knocked c.new-2.result.knocks)
    (at_knocking ticking.knocking.knocker ticking.knocking.viewer ticking.knocking.table.items ticking.knocking.number
    new.lookup (g.O.Post.posted new.knock_post) ticking.knocking.knocks)
    c.done.result.viewer new.knocks (search rules) (search rules) c.new.ensures.counts c.done.ensures.end (search rules)
    refl refl c.done.ensures.viewer (c.new-2.ensures.knocking old.lookup knocked) c.tick_on-why.ensures.ticked
    c.tick_on-why.ensures.goes_on)
