use Rattle.std.proofs.Common.{refl, rules}
use Rattle.swim_work.specs.Posts.{starts_in}
use Rattle.swim_ticker.proofs.tickers.Ticker.tick_next.Goals as goal

pub returns-in-Tick-clause-goes_on : goal.returns-in-Tick-clause-goes_on
returns-in-Tick-clause-goes_on g c = record {
  sent = search rules;
  knocks = λ asked before is.
      c.pass.ensures (starts_in c.args.ticking.now.caller.seat.calls)
      (starts_in c.tick-end.new.self.seat.calls) asked before c.tick-end.ensures.started is;
  number = search rules;
  earlier = refl;
  full = search rules;
}
