use Rattle.std.proofs.Common.{arith}
use Rattle.swim_metrics.specs.Members.{figures_then}
use Rattle.swim_metrics.proofs.Buckets.{map_from_each}
use Rattle.swim_metrics.proofs.member_figures.count_for_each.Goals as goal

pub returns : goal.returns
returns c =
    map_from_each (figures_then c.args.call.now c.args.reply.now) c.loop-row.rows c.args.rows.now
    c.loop-row.invariant.same
    (λ k d within. c.loop-row.invariant.counted k d (omega (arith, within, c.loop-row-test.false)))
