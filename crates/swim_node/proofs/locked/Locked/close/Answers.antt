use Rattle.std.proofs.Common.{◌∙◌}
use Rattle.swim_history.specs.Setting.{IsSetting}
use Rattle.swim_history.specs.Run.{IsRun}
use Rattle.swim_node.specs.OneHistory.{HoldsCalls}
use Rattle.swim_node.proofs.Telling.{one_history}
use Rattle.swim_node.proofs.locked.Locked.close.Goals as goal

pub returns-clause-history : goal.returns-clause-history
returns-clause-history g c =
    let o = g.N.Naming.opening in
    let past = c.locked.inside.recorder.past in
    let opening = c.journal.ensures.opening ∙ c.locked.invariant.0 in
    let setting : IsSetting o = rw opening at c.len-run.ensures.limits in
    let run : IsRun o past = rw (opening, c.journal.ensures.past) at c.len-run.ensures.run in
    let calls : HoldsCalls past c.args.seats =
    rw (c.locked.view_is, c.compare_all-seats.ensures.locked) c.compare_all-seats.ensures.calls in
    rw c.into_journal.ensures.past
    (one_history o past c.args.seats c.news-news.result setting run calls
    (c.news-news.ensures ∙ c.locked.invariant.3))
