use Rattle.std.proofs.Common.{rules, subst}
use Rattle.swim_watch.specs.Watching.{Passes, Watched}
use Rattle.swim_watch.specs.declared.watching.Passed.TheVariants as passed
use Rattle.swim_watch.proofs.Showing.{lost_shown, one_more_shown}
use Rattle.swim_watch.proofs.watching.watch.Goals as goal

pub returns-in-Unwritten : goal.returns-in-Unwritten
returns-in-Unwritten g c =
    let o : Watched = record {
      heard = g.F.Feed.heard c.args.feed.now;
      written = g.W.Sink.written c.args.writer.now;
      held = g.W.Sink.held c.args.writer.now;
    } in
    let mid : Watched = record {
      heard = g.F.Feed.heard c.loop-line.feed;
      written = g.W.Sink.written c.loop-line.writer;
      held = g.W.Sink.held c.loop-line.writer;
    } in
    let new : Watched = record {
      heard = g.F.Feed.heard c.hear.new.self;
      written = g.W.Sink.written c.pass.new.writer;
      held = g.W.Sink.held c.pass.new.writer;
    } in
    lost_shown c.args.is_json o mid new c.hear.new.line.items c.loop-line.invariant c.if-not-hear.ensures
    (subst (λ line. Passes c.args.is_json line mid.written new.written passed.Unwritten)
    c.as_slice.ensures.value c.in-Unwritten.ensures.passes)

pub loop-line-preserved : goal.loop-line-preserved
loop-line-preserved g c =
    let o : Watched = record {
      heard = g.F.Feed.heard c.args.feed.now;
      written = g.W.Sink.written c.args.writer.now;
      held = g.W.Sink.held c.args.writer.now;
    } in
    let mid : Watched = record {
      heard = g.F.Feed.heard c.loop-line.feed;
      written = g.W.Sink.written c.loop-line.writer;
      held = g.W.Sink.held c.loop-line.writer;
    } in
    let new : Watched = record {
      heard = g.F.Feed.heard c.hear.new.self;
      written = g.W.Sink.written c.pass.new.writer;
      held = g.W.Sink.held c.pass.new.writer;
    } in
    one_more_shown c.args.is_json o mid new c.hear.new.line.items c.loop-line.invariant c.if-not-hear.ensures
    (subst (λ line. Passes c.args.is_json line mid.written new.written passed.Whole)
    c.as_slice.ensures.value c.in-Whole.ensures.passes) (c.in-Whole.ensures.sent (search rules))
