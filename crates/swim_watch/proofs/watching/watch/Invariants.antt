use Rattle.swim_watch.specs.Watching.{Shows}
use Rattle.swim_watch.proofs.watching.watch.Given as goal

abbrev pub invariant-loop-line : goal.invariant-loop-line
invariant-loop-line g l =
    Shows l.fn.is_json
    (record {
      heard = g.F.Feed.heard l.initial.feed;
      written = g.W.Sink.written l.initial.writer;
      held = g.W.Sink.held l.initial.writer;
    })
    (record {
      heard = g.F.Feed.heard l.feed;
      written = g.W.Sink.written l.writer;
      held = g.W.Sink.held l.writer;
    })
