-- The row of a member: the newest entry that names the member decides.
use Rattle.std.specs.Prelude.{ℕ, Bool, false, ◌==◌, List, [], ◌∷◌, Option, Some, None, if◌then◌else◌, find}
use Rattle.std.specs.Option.{option_map}
use Rattle.swim_wire.specs.Address.{Address}
use Rattle.swim_history.specs.declared.rows.Row.{Row}
use Rattle.swim_history.specs.declared.rows.RowState.TheVariants.{Up, Failed}
use Rattle.swim_history.specs.declared.calls.Call.{Call}
use Rattle.swim_history.specs.declared.calls.Call.TheVariants.{Tick, Join, Remove}
use Rattle.swim_history.specs.declared.replies.Reply.{Reply}
use Rattle.swim_history.specs.declared.replies.Reply.TheVariants.{Started, Joined, Removed}
use Rattle.swim_history.specs.declared.entries.Entry.{Entry}
use Rattle.swim_history.specs.Setting.{Setting, is_state_up}
use Rattle.swim_history.specs.Clock.{period_number}

-- a member that is up at an address
abbrev pub up : ℕ → Address → Row
up id peer = record { id = id; peer = peer; state = Up }

-- the row of a member that failed in that period
abbrev pub failed : ℕ → Row → Row
failed number row = record { id = row.id; peer = row.peer; state = Failed number }

-- the row with that id
abbrev pub row_at : List Row → ℕ → Option Row
row_at rows id = find (λ row. row.id == id) rows

-- the row after an entry: number is that of the period which the entry ends, if it ends one
abbrev pub row_then : Call → Reply → ℕ → ℕ → Option Row → Option Row
row_then (Join joiner peer) (Joined place) number id old = if joiner == id then Some (up joiner peer) else old
row_then (Remove gone) Removed number id old = if gone == id then None else old
row_then Tick (Started (Some judged) probe) number id old = if judged == id then option_map (failed number) old else old
row_then call reply number id old = old

-- the row of a member, if it is known
abbrev pub row_of : Setting → List Entry → ℕ → Option Row
row_of o [] id = row_at o.rows id
row_of o (e ∷ before) id = row_then e.call e.reply (period_number o before) id (row_of o before id)

-- whether there is a row, and it is up
abbrev pub is_up : Option Row → Bool
is_up None = false
is_up (Some row) = is_state_up row.state

-- where a member is by its row, if it is listed
abbrev pub where_listed : Option Row → Option Address
where_listed None = None
where_listed (Some row) = if is_state_up row.state then Some row.peer else None

-- whether the member is listed: it is up
abbrev pub is_listed : Setting → List Entry → ℕ → Bool
is_listed o h id = is_up (row_of o h id)
