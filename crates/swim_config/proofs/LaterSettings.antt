-- What a detector begins from is within the limits at another number, too.
use Rattle.std.proofs.Common.{◌≡◌, ℕ, suc, ◌<◌, ◌^◌, true, List, [], ◌∷◌, length, refl, ap}
use Rattle.std.specs.List.{list_all}
use Rattle.swim_wire.specs.Address.{Address}
use Rattle.swim_wire.specs.declared.messages.Version.{Version}
use Rattle.swim_history.specs.Check.{rows_up, setting_of}
use Rattle.swim_history.specs.Setting.{IsSetting, Setting, ids_of, is_state_past}
use Rattle.swim_history.specs.declared.rows.Row.{Row}
use Rattle.swim_config.specs.Beginnings.{members_of, setting_from}

same_ids : (rows : List Row) → ids_of (rows_up (members_of rows)) ≡ ids_of rows
same_ids [] = refl
same_ids (row ∷ rows) = ap (λ ids. row.id ∷ ids) (same_ids rows)

same_length : (rows : List Row) → length (rows_up (members_of rows)) ≡ length rows
same_length [] = refl
same_length (row ∷ rows) = ap suc (same_length rows)

all_up : (last : ℕ) (rows : List Row) → list_all (λ row. is_state_past last row.state) (rows_up (members_of rows)) ≡
    true
all_up last [] = refl
all_up last (row ∷ rows) = all_up last rows

from_is_setting : (o : Setting) (last : ℕ) → IsSetting o → last < 2 ^ 64 → IsSetting (setting_from last o)
from_is_setting o last is small = record {
  relays = is.relays;
  timing = is.timing;
  rows = rw (same_length o.rows) is.rows;
  others = rw (same_ids o.rows) is.others;
  once = rw (same_ids o.rows) is.once;
  states = all_up last o.rows;
  last = small;
}

-- the same of its parts
pub parts_are_setting : (o : Setting) (me k rtt period last : ℕ) (members : List (ℕ × Address)) (version : Version) →
    IsSetting o → me ≡ o.me → k ≡ o.k → rtt ≡ o.rtt → period ≡ o.period → members ≡ members_of o.rows →
    version ≡ o.version → last < 2 ^ 64 → IsSetting (setting_of me k rtt period members last version)
parts_are_setting o me k rtt period last members version is m a b p rows v small =
    rw (m, a, b, p, rows, v) (from_is_setting o last is small)
