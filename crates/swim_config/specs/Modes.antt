-- Who may use a socket: the mode that a text spells.
use Rattle.std.specs.Prelude.{ℕ, ◌+◌, ◌*◌, ◌-◌, Bool, ◌&&◌, ◌==◌, nat_le, List, length, slice_index}
use Rattle.std.specs.Prelude.{Option, Some, None, Result, Ok, Err, if◌then◌else◌}
use Rattle.std.specs.List.{list_all}
use Rattle.std.specs.Option.{ok_or}
use Rattle.toml.specs.Data.{Data, Members, get_member, as_str}
use Rattle.swim_wire.specs.Arguments.{◌>>=◌}
use Rattle.swim_config.specs.declared.config_fault.ConfigFault.{ConfigFault}
use Rattle.swim_config.specs.declared.config_fault.ConfigFault.TheVariants.{Kind, Range}
use Rattle.swim_config.specs.declared.keys.ConfigKey.{ConfigKey}
use Rattle.swim_config.specs.declared.keys.ConfigKey.TheVariants.{ControlMode, EventsMode}
use Rattle.swim_config.specs.declared.modes.SocketModes.{SocketModes}
use Rattle.swim_config.specs.Keys.{name_of}

-- each byte is an octal digit
abbrev pub is_octal : List ℕ → Bool
is_octal text = list_all (λ byte. nat_le 48 byte && nat_le byte 55) text

-- a 0 and three octal digits
abbrev pub is_mode : List ℕ → Bool
is_mode text = (length text == 4 && slice_index text 0 == 48) && is_octal text

-- the number that three octal digits spell behind the first
abbrev pub bits_of : List ℕ → ℕ
bits_of text =
    64 * (slice_index text 1 - 48) + 8 * (slice_index text 2 - 48) + (slice_index text 3 - 48)

abbrev pub mode_of : List ℕ → Option ℕ
mode_of text = if is_mode text then Some (bits_of text) else None

-- the mode of a key that may be left out
abbrev pub mode_as : ConfigKey → Data → Result ℕ ConfigFault
mode_as key value = do
  text ← ok_or (as_str value) (Kind key)
  ok_or (mode_of text) (Range key)

abbrev pub mode_in : ConfigKey → Option Data → Result (Option ℕ) ConfigFault
mode_in key None = Ok None
mode_in key (Some value) = do
  mode ← mode_as key value
  Ok (Some mode)

abbrev pub mode_if : ConfigKey → Members → Result (Option ℕ) ConfigFault
mode_if key table = mode_in key (get_member (name_of key) table)

-- those of the two sockets
unfoldable pub modes_in : Members → Result SocketModes ConfigFault
modes_in table = do
  control ← mode_if ControlMode table
  events ← mode_if EventsMode table
  Ok (record { control = control; events = events })
