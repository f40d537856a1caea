use Rattle.std.proofs.Common.{◌+◌, ◌++◌, ◌∷◌, [], ◌≤◌, length, take, arith}
use Rattle.swim_node.specs.Following.{filings_of}
use Rattle.swim_recorder.specs.Recording.{at_recorder}
use Rattle.swim_recorder.proofs.Keeping.{keeps_as, keeps_both}
use Rattle.swim_recorder.proofs.Rest.{taken_all, taken_more}
use Rattle.swim_recorder.proofs.journal_recorder.JournalRecorder.read_rest.Goals as goal

pub returns-in_default : goal.returns-in_default
returns-in_default g c =
    let past = c.args.journal.now.past in
    let calls = filings_of past in
    keeps_as g.W.Sink.written (at_recorder g.Y.Reporter.heard c.args.self.now)
    (at_recorder g.Y.Reporter.heard c.loop-place.self) (take c.args.read calls) (take c.loop-place.place calls) calls
    (taken_all past c.loop-place.place c.in_default.ensures.none) c.loop-place.invariant

pub loop-place-preserved : goal.loop-place-preserved
loop-place-preserved g c =
    let calls = filings_of c.args.journal.now.past in
    let place = c.loop-place.place in
    let old = at_recorder g.Y.Reporter.heard c.args.self.now in
    let new = at_recorder g.Y.Reporter.heard c.record_call.new.self in
    keeps_as g.W.Sink.written old new (take c.args.read calls) (take place calls ++ c.in-Some.call ∷ [])
    (take (place + 1) calls) (taken_more calls place c.in-Some.call c.in-Some.ensures.some)
    (keeps_both g.W.Sink.written old (at_recorder g.Y.Reporter.heard c.loop-place.self) new (take c.args.read calls)
    (take place calls) (take place calls ++ c.in-Some.call ∷ []) c.loop-place.invariant
    (c.record_call.ensures (take place calls)))

pub returns : goal.returns
returns g c =
    let past = c.args.journal.now.past in
    let calls = filings_of past in
    let over : length past ≤ c.loop-place.place = omega arith in
    keeps_as g.W.Sink.written (at_recorder g.Y.Reporter.heard c.args.self.now)
    (at_recorder g.Y.Reporter.heard c.loop-place.self) (take c.args.read calls) (take c.loop-place.place calls) calls
    (taken_all past c.loop-place.place over) c.loop-place.invariant
