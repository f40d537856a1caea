use Rattle.std.proofs.Common.{◌≡◌, length}
use Rattle.swim_events.proofs.Turning.{AreSentSoFar}
use Rattle.swim_events.proofs.galleries.Gallery.turn_each.Given as goal

abbrev pub invariant-loop-guest : goal.invariant-loop-guest
invariant-loop-guest g l =
    (l._guest-end ≡ length l.initial.self) × AreSentSoFar l.initial.time l.initial.self l.self l._guest
