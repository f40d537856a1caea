-- What a detector starts from, as contracts see an `Opening`.
use Rattle.std.specs.Prelude.{◌≡◌, ℕ, ◌*◌, ◌<◌, ◌≤◌, ◌^◌, Bool, true, false, ◌&&◌, nat_lt, nat_le, List, length, map}
use Rattle.std.specs.List.{list_all}
use Rattle.swim_wire.specs.Ids.{most_members, has, has_twice}
use Rattle.swim_wire.specs.declared.messages.Version.{Version}
use Rattle.swim_history.specs.declared.rows.Row.{Row}
use Rattle.swim_history.specs.declared.rows.RowState.{RowState}
use Rattle.swim_history.specs.declared.rows.RowState.TheVariants.{Up, Failed}

-- this member, how many relays are asked, the timeout and the period in ticks, the members known at the
-- start, the last period number that was used, and the version of this member's own pings and ping-reqs
pub record Setting : Type 0 where
  pub me : ℕ
  pub k : ℕ
  pub rtt : ℕ
  pub period : ℕ
  pub rows : List Row
  pub last : ℕ
  pub version : Version

-- the ids of rows, in order
abbrev pub ids_of : List Row → List ℕ
ids_of rows = map (λ row. row.id) rows

-- the member is up
abbrev pub is_state_up : RowState → Bool
is_state_up Up = true
is_state_up (Failed number) = false

-- a member that failed did so in a period that was used
abbrev pub is_state_past : ℕ → RowState → Bool
is_state_past last Up = true
is_state_past last (Failed number) = nat_lt 0 number && nat_le number last

-- how many relays are asked at the most, and how long a period lasts at the most, in ticks
abbrev pub most_relays : ℕ
most_relays = 8

abbrev pub longest_period : ℕ
longest_period = 65535

-- the limits within which a detector runs
pub record IsSetting (o : Setting) : Type 0 where
  pub relays : o.k ≤ most_relays
  pub timing : (1 ≤ o.rtt) × (3 * o.rtt ≤ o.period) × (o.period ≤ longest_period)
  pub rows : length o.rows ≤ most_members
  pub others : has (ids_of o.rows) o.me ≡ false
  pub once : has_twice (ids_of o.rows) ≡ false
  pub states : list_all (λ row. is_state_past o.last row.state) o.rows ≡ true
  pub last : o.last < 2 ^ 64
