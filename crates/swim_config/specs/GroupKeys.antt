-- The keys of a group, as a configuration names them.
use Rattle.std.specs.Prelude.{ℕ, suc, Bool, true, ◌&&◌, nat_le, List, [], ◌∷◌}
use Rattle.std.specs.Prelude.{Option, Some, None, is_some, Result, Ok, Err, if◌then◌else◌}
use Rattle.std.specs.Char.{is_ascii_hexdigit}
use Rattle.std.specs.List.{count_by}
use Rattle.std.specs.Option.{ok_or}
use Rattle.std.specs.Result.{result_ok}
use Rattle.arrayvec.specs.ArrayVec.{ArrayVec}
use Rattle.toml.specs.Data.{Data, Items, no_items, item, Members, get_member, as_str, as_array}
use Rattle.swim_wire.specs.Arguments.{◌>>=◌}
use Rattle.swim_keys.specs.KeyTexts.{key_of}
use Rattle.swim_config.specs.declared.config_fault.ConfigFault.{ConfigFault}
use Rattle.swim_config.specs.declared.config_fault.ConfigFault.TheVariants.{Kind, Range}
use Rattle.swim_config.specs.declared.keys.ConfigKey.TheVariants.{Keys}
use Rattle.swim_config.specs.Keys.{name_of}

-- the key that a value spells
unfoldable pub group_key_of : Data → Result (List ℕ) ConfigFault
group_key_of value = do
  text ← ok_or (as_str value) (Kind Keys)
  ok_or (result_ok (key_of text)) (Range Keys)

-- all of them, in order
abbrev pub group_keys_of : Items → Result (List (List ℕ)) ConfigFault
group_keys_of no_items = Ok []
group_keys_of (item value others) = do
  first ← group_key_of value
  rest ← group_keys_of others
  Ok (first ∷ rest)

-- each of them is a string
abbrev pub are_strings : Items → Bool
are_strings no_items = true
are_strings (item value others) = is_some (as_str value) && are_strings others

-- how many they are
abbrev pub count_of : Items → ℕ
count_of no_items = 0
count_of (item value others) = suc (count_of others)

-- how many keys a group has
abbrev pub most_keys : ℕ
most_keys = 4

abbrev pub few_enough : Items → Result Items ConfigFault
few_enough items = if nat_le 1 (count_of items) && nat_le (count_of items) most_keys then Ok items else Err (Range Keys)

-- the strings of an array of 1 to 4 of them
abbrev pub strings_of : Data → Result Items ConfigFault
strings_of value = do
  items ← ok_or (as_array value) (Kind Keys)
  if are_strings items then few_enough items else Err (Kind Keys)

-- the keys that are given, none where they are left out
abbrev pub keys_in : Option Data → Result (List (List ℕ)) ConfigFault
keys_in None = Ok []
keys_in (Some value) = do
  items ← strings_of value
  group_keys_of items

abbrev pub keys_at : Members → Result (ArrayVec (List ℕ)) ConfigFault
keys_at table = do
  group ← keys_in (get_member (name_of Keys) table)
  Ok (record { items = group })

-- a part of a line has as many hexadecimal digits that it may be a key, or a good piece of one
abbrev pub may_be_key : List ℕ → Bool
may_be_key part = nat_le 32 (count_by is_ascii_hexdigit part)
