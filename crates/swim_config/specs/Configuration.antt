-- What a configuration says: the values of its document's keys, or its first fault.
use Rattle.std.specs.Prelude.{ℕ, ℤ, pos, negsuc, Bool, true, not, ◌&&◌, ◌==◌, nat_lt, nat_le, List, [], ◌∷◌, length}
use Rattle.std.specs.Prelude.{Option, Some, None, is_some, Result, Ok, Err, if◌then◌else◌}
use Rattle.std.specs.List.{list_all, list_any}
use Rattle.std.specs.Option.{ok_or}
use Rattle.std.specs.Result.{result_ok}
use Rattle.std.specs.Str.{bytes_eq, is_utf8}
use Rattle.hex.specs.Hex.{decode_sized}
use Rattle.toml.specs.Data.{Data, Items, no_items, item, Members, no_members, member, get_member}
use Rattle.toml.specs.Data.{as_str, as_integer, as_array, as_table}
use Rattle.toml.specs.Parse.{parse_document}
use Rattle.swim_wire.specs.Address.{Address, address_of}
use Rattle.swim_wire.specs.Arguments.{◌>>=◌}
use Rattle.swim_wire.specs.Layout.{version_of}
use Rattle.swim_wire.specs.declared.messages.Version.{Version}
use Rattle.swim_wire.specs.declared.messages.Version.TheVariants.{One, Two}
use Rattle.swim_history.specs.Check.{first_fault, setting_of}
use Rattle.swim_history.specs.Setting.{Setting}
use Rattle.swim_history.specs.declared.openings.OpeningFault.{OpeningFault}
use Rattle.swim_config.specs.declared.config.Config.{Config}
use Rattle.swim_config.specs.declared.config_fault.ConfigFault.{ConfigFault}
use Rattle.swim_config.specs.declared.config_fault.ConfigFault.TheVariants as faults
use Rattle.swim_config.specs.declared.keys.ValueForm.{ValueForm}
use Rattle.swim_config.specs.declared.keys.ValueForm.TheVariants.{Number}
use Rattle.swim_config.specs.declared.keys.ConfigKey.{ConfigKey}
use Rattle.swim_config.specs.declared.keys.ConfigKey.TheVariants as keys
use Rattle.swim_config.specs.declared.config.OwnPlace.{OwnPlace}
use Rattle.swim_config.specs.declared.config.Times.{Times}
use Rattle.swim_config.specs.declared.config.JournalSettings.{JournalSettings}
use Rattle.swim_config.specs.declared.config.FenceSettings.{FenceSettings}
use Rattle.swim_config.specs.declared.config.Rejoin.{Rejoin}
use Rattle.swim_config.specs.declared.journal_files.JournalFiles.{JournalFiles}
use Rattle.swim_config.specs.declared.journal_files.TimeUnit.{TimeUnit}
use Rattle.swim_config.specs.declared.journal_files.TimeUnit.TheVariants.{Seconds, Milliseconds}
use Rattle.swim_config.specs.declared.config.Settings.{Settings}
use Rattle.swim_config.specs.GroupKeys.{keys_at}
use Rattle.swim_config.specs.Keys.{name_of, form_of, default_of, top_keys, member_keys}
use Rattle.swim_config.specs.Modes.{modes_in}

-- ---- keys

-- it is the name of one of the keys
abbrev pub is_name : List ConfigKey → List ℕ → Bool
is_name known name = list_any (λ key. bytes_eq (name_of key) name) known

-- each key of the table is one of these
abbrev pub has_only : List ConfigKey → Members → Bool
has_only known no_members = true
has_only known (member name value others) = is_name known name && has_only known others

abbrev pub only_keys : List ConfigKey → Members → Result (Unit {0}) ConfigFault
only_keys known table = if has_only known table then Ok tt else Err faults.UnknownKey

-- ---- values

-- the value of a key that has to stand in the table
abbrev pub value_at : ConfigKey → Members → Result Data ConfigFault
value_at key table = ok_or (get_member (name_of key) table) (faults.Missing key)

-- the number that an integer is, within these limits
abbrev pub within : ℕ → ℕ → ℤ → Option ℕ
within least most (pos n) = if nat_le least n && nat_le n most then Some n else None
within least most (negsuc n) = None

-- a value as a number of this form
abbrev pub number_as : ValueForm → ConfigKey → Data → Result ℕ ConfigFault
number_as (Number least most) key value = do
  integer ← ok_or (as_integer value) (faults.Kind key)
  ok_or (within least most integer) (faults.Range key)
number_as form key value = Err (faults.Kind key)

-- the number of a key, its default where it is left out
abbrev pub number_in : ConfigKey → Option Data → Result ℕ ConfigFault
number_in key None = ok_or (default_of key) (faults.Missing key)
number_in key (Some value) = number_as (form_of key) key value

-- the key stands in the table
abbrev pub is_given : ConfigKey → Members → Bool
is_given key table = is_some (get_member (name_of key) table)

abbrev pub number_at : ConfigKey → Members → Result ℕ ConfigFault
number_at key table = number_in key (get_member (name_of key) table)

-- the value of a key as a text, and what the text says
abbrev pub text_at : ConfigKey → Members → Result (List ℕ) ConfigFault
text_at key table = do
  value ← value_at key table
  ok_or (as_str value) (faults.Kind key)

abbrev pub peer_at : ConfigKey → Members → Result Address ConfigFault
peer_at key table = do
  text ← text_at key table
  ok_or (address_of text) (faults.Peer key)

-- a character of ASCII that prints, or a space
abbrev pub is_printing : ℕ → Bool
is_printing byte = nat_le 32 byte && nat_le byte 126

-- the path of a control socket: 1 to 100 such bytes
abbrev pub is_path : List ℕ → Bool
is_path text = nat_lt 0 (length text) && nat_le (length text) 100 && list_all is_printing text

abbrev pub path_of : List ℕ → Option (List ℕ)
path_of text = if is_path text then Some text else None

abbrev pub path_at : Members → Result (List ℕ) ConfigFault
path_at table = do
  text ← text_at keys.Control table
  ok_or (path_of text) (faults.Range keys.Control)

-- the path of a key that may be left out
abbrev pub path_as : ConfigKey → Data → Result (List ℕ) ConfigFault
path_as key value = do
  text ← ok_or (as_str value) (faults.Kind key)
  ok_or (path_of text) (faults.Range key)

abbrev pub path_in : ConfigKey → Option Data → Result (Option (List ℕ)) ConfigFault
path_in key None = Ok None
path_in key (Some value) = do
  path ← path_as key value
  Ok (Some path)

abbrev pub path_if : ConfigKey → Members → Result (Option (List ℕ)) ConfigFault
path_if key table = path_in key (get_member (name_of key) table)

-- the path of this key, which isn't the other one
abbrev pub another_than : ConfigKey → List ℕ → Option (List ℕ) → Result (Option (List ℕ)) ConfigFault
another_than key other None = Ok None
another_than key other (Some path) = if bytes_eq path other then Err (faults.Range key) else Ok (Some path)

-- the same where the other one may be left out
abbrev pub another_than_any : ConfigKey → Option (List ℕ) → Option (List ℕ) → Result (Option (List ℕ)) ConfigFault
another_than_any key None path = Ok path
another_than_any key (Some other) path = another_than key other path

-- the path of the events' socket, which isn't that of the control socket
abbrev pub events_at : List ℕ → Members → Result (Option (List ℕ)) ConfigFault
events_at control table = do
  path ← path_if keys.Events table
  another_than keys.Events control path

-- the path of the metrics' file, which is that of neither socket
abbrev pub metrics_at : List ℕ → Option (List ℕ) → Members → Result (Option (List ℕ)) ConfigFault
metrics_at control events table = do
  path ← path_if keys.Metrics table
  other ← another_than keys.Metrics control path
  another_than_any keys.Metrics events other

-- the folder of the journal files, which is none of the other paths
abbrev pub dir_at : OwnPlace → Members → Result (Option (List ℕ)) ConfigFault
dir_at place table = do
  path ← path_if keys.JournalDir table
  other ← another_than keys.JournalDir place.control path
  another ← another_than_any keys.JournalDir place.events other
  another_than_any keys.JournalDir place.metrics another

-- the 32 bytes that 64 hexadecimal digits spell
abbrev pub seed_at : Members → Result (List ℕ) ConfigFault
seed_at table = do
  text ← text_at keys.Seed table
  ok_or (result_ok (decode_sized text 32)) faults.Seed

-- ---- members

-- a member: its id and its address, and no more
unfoldable pub member_of : Data → Result (ℕ × Address) ConfigFault
member_of value = do
  table ← ok_or (as_table value) (faults.Kind keys.Member)
  only ← only_keys member_keys table
  id ← number_at keys.MemberId table
  at ← peer_at keys.MemberAt table
  Ok (id, at)

-- all members, in order
abbrev pub members_of : Items → Result (List (ℕ × Address)) ConfigFault
members_of no_items = Ok []
members_of (item value others) = do
  first ← member_of value
  rest ← members_of others
  Ok (first ∷ rest)

-- each of them is a table
abbrev pub are_tables : Items → Bool
are_tables no_items = true
are_tables (item value others) = is_some (as_table value) && are_tables others

abbrev pub array_of : Data → Result Items ConfigFault
array_of value = do
  items ← ok_or (as_array value) (faults.Kind keys.Member)
  if are_tables items then Ok items else Err (faults.Kind keys.Member)

-- the members that are given, none where the key is missing
abbrev pub members_in : Option Data → Result (List (ℕ × Address)) ConfigFault
members_in None = Ok []
members_in (Some value) = do
  items ← array_of value
  members_of items

abbrev pub members_at : Members → Result (List (ℕ × Address)) ConfigFault
members_at table = members_in (get_member (name_of keys.Member) table)

-- ---- the whole

-- where it listens
unfoldable pub place_in : Members → Result OwnPlace ConfigFault
place_in table = do
  id ← number_at keys.Id table
  listen ← peer_at keys.Listen table
  control ← path_at table
  events ← events_at control table
  metrics ← metrics_at control events table
  Ok (record { id = id; listen = listen; control = control; events = events; metrics = metrics })

-- how many relays are asked, and how long things last
unfoldable pub times_in : Members → Result Times ConfigFault
times_in table = do
  k ← number_at keys.K table
  rtt ← number_at keys.Rtt table
  period ← number_at keys.Period table
  tick_ms ← number_at keys.TickMs table
  Ok (record { k = k; rtt = rtt; period = period; tick_ms = tick_ms })

-- what it draws from and writes down
unfoldable pub journal_settings_in : Members → Result JournalSettings ConfigFault
journal_settings_in table = do
  seed ← seed_at table
  journal ← number_at keys.Journal table
  last ← number_at keys.Last table
  Ok (record { seed = seed; journal = journal; last = last; is_last_given = is_given keys.Last table })

-- the version of its own pings and ping-reqs: the number is the one that a datagram has for it
unfoldable pub version_in : Members → Result Version ConfigFault
version_in table = do
  wire ← number_at keys.Wire table
  Ok (version_of wire)

-- the unit to which times are told in journal files
abbrev pub unit_of : ℕ → TimeUnit
unit_of number = if number == 0 then Seconds else Milliseconds

-- where each life's journal is written to a file
unfoldable pub files_in : OwnPlace → Members → Result JournalFiles ConfigFault
files_in place table = do
  dir ← dir_at place table
  keep ← number_at keys.JournalKeep table
  ms ← number_at keys.JournalMs table
  Ok (record { dir = dir; keep = keep; unit = unit_of ms })

-- how many datagrams a second of an address are handed on
unfoldable pub fence_in : Members → Result FenceSettings ConfigFault
fence_in table = do
  rate ← number_at keys.Fence table
  Ok (record { rate = rate; is_given = is_given keys.Fence table })

-- how often a failed member is knocked at
unfoldable pub rejoin_in : Members → Result Rejoin ConfigFault
rejoin_in table = do
  periods ← number_at keys.Rejoin table
  Ok (record { periods = periods; is_given = is_given keys.Rejoin table })

-- all of it, but for the members
unfoldable pub settings_in : Members → Result Settings ConfigFault
settings_in table = do
  place ← place_in table
  modes ← modes_in table
  times ← times_in table
  journal_settings ← journal_settings_in table
  version ← version_in table
  group ← keys_at table
  fence ← fence_in table
  rejoin ← rejoin_in table
  files ← files_in place table
  Ok (record {
    place = place;
    modes = modes;
    times = times;
    journal_settings = journal_settings;
    version = version;
    keys = group;
    fence = fence;
    rejoin = rejoin;
    files = files;
  })

-- what the detector starts from
abbrev pub setting_with : Settings → List (ℕ × Address) → Setting
setting_with s members =
    setting_of s.place.id s.times.k s.times.rtt s.times.period members s.journal_settings.last s.version

-- there are keys, and no last number that the daemon begins behind: then the clock tells it
abbrev pub begins_by_clock : Settings → Bool
begins_by_clock s = nat_lt 0 (length s.keys.items) && not s.journal_settings.is_last_given

-- the configuration of these settings and this opening, if the opening has no fault
abbrev pub config_unless : Option OpeningFault → Settings → Setting → Result Config ConfigFault
config_unless (Some fault) s opening = Err (faults.Opening fault)
config_unless None s opening =
    Ok (record {
      listen = s.place.listen;
      control = s.place.control;
      events = s.place.events;
      metrics = s.place.metrics;
      modes = s.modes;
      tick_ms = s.times.tick_ms;
      seed = s.journal_settings.seed;
      journal = s.journal_settings.journal;
      keys = s.keys;
      begins_by_clock = begins_by_clock s;
      fence = s.fence.rate;
      is_fence_given = s.fence.is_given;
      rejoin = s.rejoin.periods;
      is_rejoin_given = s.rejoin.is_given;
      files = s.files;
      opening = opening;
    })

abbrev pub config_with : Settings → List (ℕ × Address) → Result Config ConfigFault
config_with s members = let opening = setting_with s members in config_unless (first_fault opening) s opening

-- the values of the keys of a table, defaults included
unfoldable pub config_in : Members → Result Config ConfigFault
config_in table = do
  only ← only_keys top_keys table
  settings ← settings_in table
  members ← members_at table
  config_with settings members

-- how many files stay, where some are made
abbrev pub told_keep : JournalFiles → Option ℕ
told_keep files = if is_some files.dir then Some files.keep else None

-- that times have milliseconds, where they do; the number of `journal_ms` that is its default goes without saying
abbrev pub told_unit : TimeUnit → Option ℕ
told_unit Seconds = None
told_unit Milliseconds = Some 1

-- the same where some files are made
abbrev pub told_ms : JournalFiles → Option ℕ
told_ms files = if is_some files.dir then told_unit files.unit else None

-- the number of a version that isn't the first one
abbrev pub told_version : Version → Option ℕ
told_version One = None
told_version Two = Some 2

-- how many keys there are, where there are some
abbrev pub told_count : ℕ → Option ℕ
told_count count = if nat_lt 0 count then Some count else None

-- the last number, where it is known before the daemon starts
abbrev pub told_last : Config → Option ℕ
told_last config = if config.begins_by_clock then None else Some config.opening.last

-- the datagrams a second, where they are given
abbrev pub told_fence : Config → Option ℕ
told_fence config = if config.is_fence_given then Some config.fence else None

-- the periods between knocks, where they are given
abbrev pub told_rejoin : Config → Option ℕ
told_rejoin config = if config.is_rejoin_given then Some config.rejoin else None

-- the number that a summary tells of a key; none where it tells none, as of a key that is left out
abbrev pub number_of : ConfigKey → Config → Option ℕ
number_of keys.K config = Some config.opening.k
number_of keys.Rtt config = Some config.opening.rtt
number_of keys.Period config = Some config.opening.period
number_of keys.TickMs config = Some config.tick_ms
number_of keys.Last config = told_last config
number_of keys.Journal config = Some config.journal
number_of keys.Wire config = told_version config.opening.version
number_of keys.Keys config = told_count (length config.keys.items)
number_of keys.Fence config = told_fence config
number_of keys.Rejoin config = told_rejoin config
number_of keys.JournalKeep config = told_keep config.files
number_of keys.JournalMs config = told_ms config.files
number_of key config = None

-- the table that the bytes are as a TOML document
abbrev pub document_of : List ℕ → Option Members
document_of bytes = if is_utf8 bytes then parse_document bytes else None

-- the configuration that the bytes are
abbrev pub config_of : List ℕ → Result Config ConfigFault
config_of bytes = if nat_lt 65536 (length bytes) then Err faults.Size else do
  table ← ok_or (document_of bytes) faults.Document
  config_in table
