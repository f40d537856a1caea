use Rattle.std.proofs.Common.{rules}
use Rattle.swim_pages.proofs.Verdicts.{one_more_listed}
use Rattle.swim_pages.proofs.kept_files.verdicts_in.Goals as goal
use Rattle.swim_pages.proofs.kept_files.verdicts_in.Goals.{in-Some+else-len-ge-KEPT_VERDICTS+in_ok-ok, in_default}

pub loop-finding-preserved : goal.loop-finding-preserved
loop-finding-preserved c =
    one_more_listed c.args.findings.now c.loop-finding.finding-index c.finding-item.result c.verdict_in.result
    c.loop-finding.verdicts.items c.match-verdict_in.verdicts.items c.loop-finding-test.true c.finding-item.is
    c.verdict_in.ensures c.loop-finding.invariant
    (elim c.match-verdict_in.branch
    [ in-Some+else-len-ge-KEPT_VERDICTS+in_ok-ok w ↦ search rules | in_default w ↦ search rules ])
