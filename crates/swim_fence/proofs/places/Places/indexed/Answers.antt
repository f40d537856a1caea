use Rattle.std.proofs.Common.{arith, rules}
use Rattle.swim_fence.proofs.Indexing.{indexed_more, indexed_none}
use Rattle.swim_fence.proofs.places.Places.indexed.Goals as goal

pub loop-place-init : goal.loop-place-init
loop-place-init c = record
    { starts = search rules; ends = search rules; indexed = indexed_none c.as_slice-member-items.result.now _ 512 }

pub loop-place-preserved : goal.loop-place-preserved
loop-place-preserved c = record {
  starts = search rules;
  ends = search rules;
  indexed =
      indexed_more c.as_slice-member-items.result.now c.loop-place.starts c.loop-place.ends c.loop-place.place
      c.hash_of-hash.result c.min.result
      c.max.result c.member-item.result c.loop-place.invariant.indexed (omega arith) c.member-item.is
      c.hash_of-hash.ensures.value (omega arith) (omega arith)
      (search rules) (search rules);
}
