use Rattle.std.proofs.Common.{None}
use Rattle.swim_work.specs.Posts.{at_sender}
use Rattle.swim_work.specs.Turns.{HasTicked}
use Rattle.swim_ticker.specs.Knocking.{at_knocking}
use Rattle.swim_ticker.specs.Ticking.{GoesOn, at_ticker}
use Rattle.swim_ticker.proofs.tickers.Ticker.tick_on.Given as goal

abbrev pub invariant-loop-turn : goal.invariant-loop-turn
invariant-loop-turn g l = record {
  ticked : HasTicked g.N.Naming.opening g.N.Naming.limit (g.P.Pace.beats l.initial.self.pace)
      (g.P.Pace.beats l.self.pace)
      (at_sender l.initial.ticking.caller.seat l.initial.self.post l.initial.ticking.caller.counts) None
      (at_sender l.ticking.caller.seat l.self.post l.ticking.caller.counts);
  goes_on : GoesOn g.O.Post.posted g.N.Naming.opening
      (at_ticker (at_sender l.initial.ticking.caller.seat l.initial.self.post l.initial.ticking.caller.counts)
      (at_knocking l.initial.ticking.knocking.knocker l.initial.ticking.knocking.viewer
      l.initial.ticking.knocking.table.items l.initial.ticking.knocking.number l.initial.self.lookup
      (g.O.Post.posted l.initial.self.knock_post) l.initial.ticking.knocking.knocks) l.initial.self.knocks) None
      (at_ticker (at_sender l.ticking.caller.seat l.self.post l.ticking.caller.counts)
      (at_knocking l.ticking.knocking.knocker l.ticking.knocking.viewer l.ticking.knocking.table.items
      l.ticking.knocking.number l.self.lookup (g.O.Post.posted l.self.knock_post) l.ticking.knocking.knocks)
      l.self.knocks);
}
