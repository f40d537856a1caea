-- How a life of a daemon follows another.
use Rattle.std.specs.Prelude.{◌≡◌, ◌+◌, Option, Some}
use Rattle.swim_history.specs.Setting.{Setting}
use Rattle.swim_evidence.specs.declared.following.Draw.{Draw}
use Rattle.swim_evidence.specs.declared.following.Heading.{Heading}

-- the same seed, and the next life
abbrev pub NextDraw : Draw → Draw → Type 0
NextDraw before now = (now.key ≡ before.key) × (now.life ≡ before.life + 1)

-- where both tell from what they draw
abbrev pub NextDrawIfTold : Option Draw → Option Draw → Type 0
NextDrawIfTold (Some before) (Some now) = NextDraw before now
NextDrawIfTold before now = Unit {0}

abbrev pub NextLife : Heading → Heading → Type 0
NextLife before now = (now.limit ≡ before.limit) × NextDrawIfTold before.draw now.draw

-- the opening is what the life before left, and what stands beside it is the next life's
abbrev pub Follows : Setting → Heading → Setting → Heading → Type 0
Follows left before opening heading = (opening ≡ left) × NextLife before heading
