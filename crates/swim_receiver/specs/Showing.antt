-- What a line is shown of the members.
use Rattle.std.specs.Prelude.{◌≡◌, List, All, Option, map}
use mathlib.Core.List.{IsPrefix}
use Rattle.swim_wire.specs.Address.{Address}
use Rattle.swim_history.specs.declared.rows.Change.{Change}
use Rattle.swim_history.specs.declared.rows.Row.{Row}
use Rattle.swim_history.specs.Changes.{table_after}
use Rattle.swim_history.specs.Setting.{Setting}
use Rattle.swim_trail.specs.Growing.{Grows}

-- the addresses of all that stand in a table, whether they are up or failed
abbrev pub addresses_in : List Row → List Address
addresses_in rows = map (λ row. row.peer) rows

-- these are the addresses in the table after the first of these changes
abbrev pub AreMembers : Setting → List Change → List Address → Type 0
AreMembers o seen addresses = (log : List Change) × IsPrefix log seen × (addresses ≡ addresses_in (table_after o log))

-- whatever a line was shown by a viewer, meanwhile, are the addresses in tables that changes make of the opening: those
-- that the viewer has seen by then
pub record AreShown (o : Setting) (old_seen new_seen : List Change) (old new : Option (List (List Address))) : Type
    0 where
  pub shown : List (List Address)
  pub grows : Grows old new shown
  pub later : IsPrefix old_seen new_seen
  pub each : All (AreMembers o new_seen) shown
