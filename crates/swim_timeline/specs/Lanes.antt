-- The lanes of a picture: the members that stood in the member table when it begins, and those that joined from then
-- on,
-- ascending by id, each with the address that it had last.
use Rattle.std.specs.Prelude.{ℕ, nat_lt, List, [], ◌∷◌, if◌then◌else◌}
use Rattle.std.specs.Ordering.{nat_cmp}
use Rattle.std.specs.BTreeMap.{insert_entry}
use Rattle.swim_wire.specs.Address.{Address}
use Rattle.swim_history.specs.declared.calls.Call.{Call}
use Rattle.swim_history.specs.declared.calls.Call.TheVariants.{Join}
use Rattle.swim_history.specs.declared.replies.Reply.{Reply}
use Rattle.swim_history.specs.declared.replies.Reply.TheVariants.{Joined}
use Rattle.swim_history.specs.declared.rows.Row.{Row}
use Rattle.swim_history.specs.declared.entries.Entry.{Entry}
use Rattle.swim_history.specs.Clock.{ticks}

abbrev pub Lanes : Type 0
Lanes = List (ℕ × Address)

-- with one more, in the place of one of the same member
abbrev pub with_lane : Lanes → ℕ → Address → Lanes
with_lane lanes id peer = insert_entry nat_cmp lanes id peer

abbrev pub with_rows : Lanes → List Row → Lanes
with_rows lanes [] = lanes
with_rows lanes (row ∷ rows) = with_rows (with_lane lanes row.id row.peer) rows

-- an accepted join gives its member a lane; nothing takes one away
abbrev pub lanes_then : Lanes → Call → Reply → Lanes
lanes_then lanes (Join id peer) (Joined place) = with_lane lanes id peer
lanes_then lanes call reply = lanes

-- these lanes, and those of who joined from that tick on
abbrev pub lanes_from : ℕ → Lanes → List Entry → Lanes
lanes_from first lanes [] = lanes
lanes_from first lanes (e ∷ before) =
    if nat_lt (ticks (e ∷ before)) first then lanes
    else lanes_then (lanes_from first lanes before) e.call e.reply
