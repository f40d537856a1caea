-- The member table that an answer is.
use Rattle.std.specs.Prelude.{◌≡◌, ℕ, ◌<◌, ◌≤◌, ◌^◌, ◌-◌, List, length, Option, Some, None, codes, if◌then◌else◌}
use Rattle.std.specs.List.{AllByRecursion}
use Rattle.std.specs.Str.{bytes_eq}
use Rattle.swim_text.specs.Numbers.{number_of}
use Rattle.swim_text.specs.Parts.{cut}
use Rattle.swim_wire.specs.Address.{IsAddress, address_of, ◌>>=◌}
use Rattle.swim_wire.specs.Ids.{id_of, most_members}
use Rattle.swim_history.specs.Texts.{table_text}
use Rattle.swim_history.specs.declared.rows.Row.{Row}
use Rattle.swim_history.specs.declared.rows.RowState.{RowState}
use Rattle.swim_history.specs.declared.rows.RowState.TheVariants.{Up, Failed}

-- ---- tables

-- the number of a period is within its range
abbrev pub IsState : RowState → Type 0
IsState Up = Unit {0}
IsState (Failed number) = number < 2 ^ 64

-- the row of a member: its id, its address and its number are within their ranges
pub record IsRow (row : Row) : Type 0 where
  pub id : (0 < row.id) × (row.id < 2 ^ 32)
  pub peer : IsAddress row.peer
  pub state : IsState row.state

-- a table: as many rows as there may be members
pub record IsTable (rows : List Row) : Type 0 where
  pub fits : length rows ≤ most_members
  pub each : AllByRecursion IsRow rows

-- the text of no table
abbrev pub IsNoTable : List ℕ → Type 0
IsNoTable answer = (rows : List Row) → IsTable rows → answer ≡ table_text rows → ⊥

-- ---- a row that is read

-- what is told of a failed member
abbrev pub failed_of : List ℕ × List ℕ → Option RowState
failed_of parts =
    if bytes_eq parts.0 (codes "failed") then (do
      number ← number_of (2 ^ 64 - 1) parts.1
      Some (Failed number)) else None

-- the state that a text is
abbrev pub state_of : List ℕ → Option RowState
state_of text = if bytes_eq text (codes "up") then Some Up else (do
  parts ← cut 32 text
  failed_of parts)

-- the row that a line without its line feed is
abbrev pub row_of : List ℕ → Option Row
row_of line = do
  first ← cut 32 line
  second ← cut 32 first.1
  id ← id_of first.0
  peer ← address_of second.0
  state ← state_of second.1
  Some (record { id = id; peer = peer; state = state })
