use Rattle.std.proofs.Common.{arith}
use Rattle.swim_events.specs.Guests.{put_text}
use Rattle.swim_events.proofs.Turning.{one_changed}
use Rattle.swim_events.proofs.galleries.Gallery.put_each.Goals as goal

pub loop-guest-preserved : goal.loop-guest-preserved
loop-guest-preserved g c = (
  c.len-guest-end.ensures,
  one_changed (put_text c.as_bytes-text.result.now) c.args.self.now c.loop-guest.self c.put_first.new.self
      c.loop-guest._guest
      (omega (arith, c.loop-guest-test.true, c.len-guest-end.ensures)) c.loop-guest.invariant.1 c.put_first.ensures,
)
