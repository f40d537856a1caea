use Rattle.std.proofs.Common.{arith}
use Rattle.swim_keys.proofs.Differences.{same_more, none_more, same_by_bytes}
use Rattle.swim_keys.proofs.signers.is_same.Goals as goal

pub loop-i-preserved : goal.loop-i-preserved
loop-i-preserved c = record {
  same = same_more c.args.first.now c.args.second.now c.loop-i.i c.loop-i.difference c.loop-i.invariant.same;
  none = none_more c.args.first.now c.args.second.now c.loop-i.i c.loop-i.difference c.loop-i.invariant.none;
}

pub returns : goal.returns
returns c =
    same_by_bytes c.args.first.now c.args.second.now c.loop-i.i c.loop-i.difference (omega arith) (omega arith)
    c.loop-i.invariant.same c.loop-i.invariant.none
