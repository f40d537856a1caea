use Rattle.swim_fence.proofs.Listing.{Follows-nothing}
use Rattle.swim_fence.proofs.fences.Fence.new.Goals as goal

pub returns-clause-follows : goal.returns-clause-follows
returns-clause-follows c = Follows-nothing c.args.rate c.of.result _ c.full-2.result c.of.ensures.order c.full-2.ensures
