use Rattle.swim_fence.proofs.OwnEvents.{passes-own_events}
use Rattle.swim_fence.proofs.laws.a_flood_pushes_no_member_out.Goals as goal

pub returns : goal.returns
returns c = passes-own_events
