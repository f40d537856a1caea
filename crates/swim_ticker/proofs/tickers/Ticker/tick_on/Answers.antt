use Rattle.swim_work.specs.Posts.{at_sender}
use Rattle.swim_work.specs.Turns.{TicksNext}
use Rattle.swim_work.proofs.Turning.{last_turned, none_turned, one_more_turned}
use Rattle.swim_ticker.specs.Knocking.{at_knocking}
use Rattle.swim_ticker.specs.Ticking.{at_ticker}
use Rattle.swim_ticker.proofs.Living.{on_and_on, still_on}
use Rattle.swim_ticker.proofs.tickers.Ticker.tick_on.Goals as goal

pub returns-in-Some-tick_next-clause-ticked : goal.returns-in-Some-tick_next-clause-ticked
returns-in-Some-tick_next-clause-ticked g c =
    let first = c.args.self.now in
    let old = c.loop-turn.self in
    let new = c.tick_next.new.self in
    let began = c.args.ticking.now.caller in
    let caller = c.loop-turn.ticking.caller in
    let ticked = c.tick_next.new.ticking.caller in
    last_turned (TicksNext g.N.Naming.opening g.N.Naming.limit) (g.P.Pace.beats first.pace) (g.P.Pace.beats old.pace)
    (g.P.Pace.beats new.pace) (at_sender began.seat first.post began.counts)
    (at_sender caller.seat old.post caller.counts) (at_sender ticked.seat new.post ticked.counts)
    c.in-Some-tick_next.end c.loop-turn.invariant.ticked c.in-Some-tick_next.ensures.turn

pub returns-in-Some-tick_next-clause-goes_on : goal.returns-in-Some-tick_next-clause-goes_on
returns-in-Some-tick_next-clause-goes_on g c =
    on_and_on g.O.Post.posted g.N.Naming.opening _ _ _ _ c.loop-turn.invariant.goes_on
    c.in-Some-tick_next.ensures.goes_on

pub loop-turn-init : goal.loop-turn-init
loop-turn-init g c =
    let first = c.args.self.now in
    let began = c.args.ticking.now.caller in
    record {
      ticked = none_turned (TicksNext g.N.Naming.opening g.N.Naming.limit) (g.P.Pace.beats first.pace)
          (at_sender began.seat first.post began.counts);
      goes_on = still_on g.O.Post.posted g.N.Naming.opening _;
    }

pub loop-turn-preserved : goal.loop-turn-preserved
loop-turn-preserved g c =
    let first = c.args.self.now in
    let old = c.loop-turn.self in
    let new = c.tick_next.new.self in
    let began = c.args.ticking.now.caller in
    let caller = c.loop-turn.ticking.caller in
    let ticked = c.tick_next.new.ticking.caller in
    record {
      ticked = one_more_turned (TicksNext g.N.Naming.opening g.N.Naming.limit) (g.P.Pace.beats first.pace)
          (g.P.Pace.beats old.pace) (g.P.Pace.beats new.pace) (at_sender began.seat first.post began.counts)
          (at_sender caller.seat old.post caller.counts) (at_sender ticked.seat new.post ticked.counts)
          c.loop-turn.invariant.ticked c.in_default.ensures.turn;
      goes_on = on_and_on g.O.Post.posted g.N.Naming.opening _ _ _ _ c.loop-turn.invariant.goes_on
          c.in_default.ensures.goes_on;
    }
