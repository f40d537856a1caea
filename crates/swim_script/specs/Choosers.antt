-- What the chooser of a script chooses.
use Rattle.std.specs.Prelude.{ℕ, List}
use Rattle.swim_targets.specs.Draws.{DrawsOrder, DrawsPlace}
use Rattle.swim_targets.specs.Script.{FollowsOrder, FollowsPlace}
use Rattle.swim_script.specs.declared.choosers.Drawer.{Drawer}
use Rattle.swim_script.specs.declared.choosers.Drawer.TheVariants.{Seeded, Scripted}

-- an order, as the generator of a seed draws it or as it was written down
abbrev pub ChoosesOrder : Drawer → List ℕ → List ℕ → Drawer → Type 0
ChoosesOrder (Seeded before) ids order (Seeded after) = DrawsOrder before ids order after
ChoosesOrder (Scripted before) ids order (Scripted after) = FollowsOrder before ids order after
ChoosesOrder before ids order after = ⊥

-- a place, likewise
abbrev pub ChoosesPlace : Drawer → ℕ → ℕ → Drawer → Type 0
ChoosesPlace (Seeded before) last place (Seeded after) = DrawsPlace before last place after
ChoosesPlace (Scripted before) last place (Scripted after) = FollowsPlace before last place after
ChoosesPlace before last place after = ⊥
