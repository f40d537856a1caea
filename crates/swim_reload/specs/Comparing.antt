-- Whether two values of a configuration are the same.
use Rattle.std.specs.Prelude.{ℕ, Bool, true, false, ◌&&◌, ◌==◌, List, [], ◌∷◌, Option, Some, None, bytes_eq}
use Rattle.swim_wire.specs.Address.{Address}
use Rattle.swim_wire.specs.declared.messages.Version.{Version}
use Rattle.swim_wire.specs.declared.messages.Version.TheVariants.{One, Two}
use Rattle.swim_history.specs.declared.rows.Row.{Row}
use Rattle.swim_history.specs.declared.rows.RowState.{RowState}
use Rattle.swim_history.specs.declared.rows.RowState.TheVariants.{Up, Failed}
use Rattle.swim_config.specs.declared.journal_files.TimeUnit.{TimeUnit}
use Rattle.swim_config.specs.declared.journal_files.TimeUnit.TheVariants.{Seconds, Milliseconds}

-- both are the same number, or none
abbrev pub is_same_number : Option ℕ → Option ℕ → Bool
is_same_number None None = true
is_same_number (Some number) (Some other) = number == other
is_same_number number other = false

-- both are the same path, or none
abbrev pub is_same_path : Option (List ℕ) → Option (List ℕ) → Bool
is_same_path None None = true
is_same_path (Some path) (Some other) = bytes_eq path other
is_same_path path other = false

abbrev pub is_same_peer : Address → Address → Bool
is_same_peer peer other = bytes_eq peer.ip other.ip && peer.port == other.port

abbrev pub is_same_version : Version → Version → Bool
is_same_version One One = true
is_same_version Two Two = true
is_same_version version other = false

abbrev pub is_same_unit : TimeUnit → TimeUnit → Bool
is_same_unit Seconds Seconds = true
is_same_unit Milliseconds Milliseconds = true
is_same_unit unit other = false

abbrev pub is_same_state : RowState → RowState → Bool
is_same_state Up Up = true
is_same_state (Failed number) (Failed other) = number == other
is_same_state state other = false

abbrev pub is_same_row : Row → Row → Bool
is_same_row row other =
    (row.id == other.id && is_same_peer row.peer other.peer) && is_same_state row.state other.state

-- they are the same rows, in the same order
abbrev pub are_same_rows : List Row → List Row → Bool
are_same_rows [] [] = true
are_same_rows (row ∷ rows) (other ∷ others) = is_same_row row other && are_same_rows rows others
are_same_rows rows others = false
