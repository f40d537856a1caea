-- Whom a datagram shows to be there again.
use Rattle.std.specs.Prelude.{ℕ, ◌==◌, Bool, false, ◌&&◌, nat_lt, List, Option, Some, None, if◌then◌else◌}
use Rattle.std.specs.Prelude.{option_and_then}
use Rattle.std.specs.Str.{bytes_eq}
use Rattle.swim_wire.specs.Address.{Address}
use Rattle.swim_wire.specs.Ids.{has}
use Rattle.swim_wire.specs.Messages.{Message}
use Rattle.swim_wire.specs.declared.messages.Kind.{Kind}
use Rattle.swim_wire.specs.declared.messages.Kind.TheVariants.{Ack}
use Rattle.swim_history.specs.Rows.{row_at}
use Rattle.swim_history.specs.declared.rows.Row.{Row}
use Rattle.swim_history.specs.declared.rows.RowState.{RowState}
use Rattle.swim_history.specs.declared.rows.RowState.TheVariants.{Up, Failed}
use Rattle.swim_rejoin.specs.Histories.{Event, last_knocks, table_in, times}
use Rattle.swim_rejoin.specs.Waits.{has_waited}

-- both are the same address
abbrev pub is_same : Address → Address → Bool
is_same a b = bytes_eq a.ip b.ip && a.port == b.port

-- the message says that its sender is there: it is its own ack of one of these knocks. A ping of its own says nothing,
-- as it may be of any age
abbrev pub tells : Kind → ℕ → List ℕ → Message → Bool
tells Ack me knocks m = m.initiator == me && m.target == m.sender && has knocks m.number
tells kind me knocks m = false

-- a verdict stands on the member, the knock with that number was sent after it, and there were enough knocks since
abbrev pub is_ready : RowState → ℕ → List ℕ → ℕ → Bool
is_ready Up times knocks number = false
is_ready (Failed verdict) times knocks number = nat_lt verdict number && has_waited times knocks verdict

-- the message is believed of the member with that row, its last knocks, and how long it waits
abbrev pub is_believed : ℕ → Row → List ℕ → ℕ → Message → Address → Bool
is_believed me row knocks times m from =
    is_ready row.state times knocks m.number && is_same row.peer from && tells m.kind me knocks m

-- the member to be joined again after a datagram, with its row in the table that was last looked at. With an N of 0
-- nobody is
abbrev pub believed : ℕ → ℕ → List Event → Message → Address → Option Row
believed rejoin me h m from =
    if rejoin == 0 then None
    else option_and_then
    (λ row. if is_believed me row (last_knocks m.sender h) (times m.sender h) m from then Some row else None)
    (row_at (table_in h) m.sender)
