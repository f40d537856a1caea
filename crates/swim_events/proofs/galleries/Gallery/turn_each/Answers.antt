use Rattle.std.proofs.Common.{arith}
use Rattle.swim_events.proofs.Turning.{one_sent}
use Rattle.swim_events.proofs.galleries.Gallery.turn_each.Goals as goal

pub loop-guest-preserved : goal.loop-guest-preserved
loop-guest-preserved g c = (
  c.len-guest-end.ensures,
  one_sent c.args.time c.args.self.now c.loop-guest.self c.turn_first.new.self c.loop-guest._guest
      (omega (arith, c.loop-guest-test.true, c.len-guest-end.ensures)) c.loop-guest.invariant.1 c.turn_first.ensures,
)
