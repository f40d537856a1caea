use Rattle.std.proofs.Common.{◌≡◌, ◌++◌, length, map, take, drop}
use Rattle.swim_events.specs.Guests.{put_text}
use Rattle.swim_events.proofs.galleries.Gallery.put_each.Given as goal

abbrev pub invariant-loop-guest : goal.invariant-loop-guest
invariant-loop-guest g l =
    (l._guest-end ≡ length l.initial.self)
    × (l.self ≡ drop l._guest l.initial.self ++ map (put_text l.text) (take l._guest l.initial.self))
