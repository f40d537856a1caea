use Rattle.std.proofs.Common.{rules}
use Rattle.swim_receiver.proofs.Same.{one_row_more}
use Rattle.swim_receiver.proofs.rejoining.are_same.Goals as goal

pub loop-place-preserved : goal.loop-place-preserved
loop-place-preserved c =
    one_row_more c.args.rows.now c.args.others.now c.loop-place.place c.index-rows-place.result
    c.index-others-place.result (search rules) (search rules) (search rules) (search rules) (search rules)
    c.loop-place.invariant
