-- What `Opening::check` tests, and the first fault.
use Rattle.std.specs.Prelude.{ℕ, ◌*◌, Bool, ◌||◌, ◌==◌, nat_lt, List, [], ◌∷◌, length, map, Option, find}
use Rattle.swim_wire.specs.Address.{Address}
use Rattle.swim_wire.specs.Ids.{has, has_twice}
use Rattle.swim_wire.specs.declared.messages.Version.{Version}
use Rattle.swim_history.specs.declared.rows.Row.{Row}
use Rattle.swim_history.specs.declared.openings.OpeningFault.{OpeningFault}
use Rattle.swim_history.specs.declared.openings.OpeningFault.TheVariants.{Relays, Timing, TooManyRows, Myself, Twice}
use Rattle.swim_history.specs.declared.rows.Change.TheVariants.{Failed}
use Rattle.swim_history.specs.Changes.{after_change}
use Rattle.swim_history.specs.Setting.{Setting, ids_of}
use Rattle.swim_history.specs.Rows.{up}

-- rows of members that are up
abbrev pub rows_up : List (ℕ × Address) → List Row
rows_up members = map (λ member. up member.0 member.1) members

-- the setting that the arguments give, whether or not it is within the limits
abbrev pub setting_of : ℕ → ℕ → ℕ → ℕ → List (ℕ × Address) → ℕ → Version → Setting
setting_of me k rtt period members last version = record {
  me = me;
  k = k;
  rtt = rtt;
  period = period;
  rows = rows_up members;
  last = last;
  version = version;
}

-- the setting, but a member failed in that period
abbrev pub setting_failed : ℕ → ℕ → Setting → Setting
setting_failed id number o = record o { rows = after_change (Failed id number) o.rows }

-- the fault applies
abbrev pub has_fault : Setting → OpeningFault → Bool
has_fault o Relays = nat_lt 8 o.k
has_fault o Timing = o.rtt == 0 || nat_lt o.period (3 * o.rtt) || nat_lt 65535 o.period
has_fault o TooManyRows = nat_lt 128 (length o.rows)
has_fault o Myself = has (ids_of o.rows) o.me
has_fault o Twice = has_twice (ids_of o.rows)

-- the first that applies
abbrev pub first_fault : Setting → Option OpeningFault
first_fault o = find (has_fault o) (Relays ∷ Timing ∷ TooManyRows ∷ Myself ∷ Twice ∷ [])

-- the number that texts tell
abbrev pub fault_number : OpeningFault → ℕ
fault_number Relays = 1
fault_number Timing = 2
fault_number TooManyRows = 3
fault_number Myself = 4
fault_number Twice = 5
