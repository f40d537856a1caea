-- The summary of a configuration.
use Rattle.std.specs.Prelude.{ℕ, ◌/◌, ◌%◌, List, [], ◌∷◌, ◌++◌, length, Option, Some, None, if◌then◌else◌}
use Rattle.std.specs.Prelude.{codes, decimal}
use Rattle.swim_wire.specs.Address.{address_text}
use Rattle.swim_history.specs.Changes.{ascending}
use Rattle.swim_history.specs.declared.rows.Row.{Row}
use Rattle.swim_config.specs.declared.config.Config.{Config}
use Rattle.swim_config.specs.declared.keys.ConfigKey.{ConfigKey}
use Rattle.swim_config.specs.Configuration.{number_of}
use Rattle.swim_config.specs.Fingerprints.{fingerprint_of}
use Rattle.swim_config.specs.Keys.{begins_line, name_of, number_keys}

-- ---- numbers

-- what stands before a key: it begins a line, or goes on with the one before
abbrev pub mark_of : ConfigKey → List ℕ
mark_of key = if begins_line key then codes "\n" else codes " "

-- a key and its number, if it has one
abbrev pub number_text : ConfigKey → Option ℕ → List ℕ
number_text key None = []
number_text key (Some number) = mark_of key ++ (name_of key ++ (codes " " ++ decimal number))

abbrev pub told_text : Config → ConfigKey → List ℕ
told_text config key = number_text key (number_of key config)

abbrev pub numbers_text : Config → List ConfigKey → List ℕ
numbers_text config [] = []
numbers_text config (key ∷ others) = told_text config key ++ numbers_text config others

-- ---- keys of the group

-- the line of a key, which tells its fingerprint
abbrev pub key_line : List ℕ → List ℕ
key_line key = codes "\nkey " ++ fingerprint_of key

-- those of all keys, in the order written
abbrev pub keys_text : List (List ℕ) → List ℕ
keys_text [] = []
keys_text (key ∷ keys) = key_line key ++ keys_text keys

-- ---- members

-- the line of a member
abbrev pub member_text : Row → List ℕ
member_text row = decimal row.id ++ (codes " " ++ (address_text row.peer ++ codes "\n"))

abbrev pub members_text : List Row → List ℕ
members_text [] = []
members_text (row ∷ rows) = member_text row ++ members_text rows

-- how many members there are
abbrev pub count_text : ℕ → List ℕ
count_text count = codes "\nmembers " ++ (decimal count ++ codes "\n")

-- the members, ascending by id
abbrev pub all_members_text : List Row → List ℕ
all_members_text rows = count_text (length rows) ++ members_text (ascending rows)

-- ---- the whole

-- who this member is, and where it listens
abbrev pub own_text : Config → List ℕ
own_text config =
    codes "id " ++ (decimal config.opening.me
    ++ (codes "\nlisten " ++ (address_text config.listen ++ (codes "\ncontrol " ++ config.control))))

-- a path that may be left out
abbrev pub path_text : List ℕ → Option (List ℕ) → List ℕ
path_text words None = []
path_text words (Some path) = words ++ path

-- where events and metrics are told
abbrev pub telling_text : Config → List ℕ
telling_text config = path_text (codes "\nevents ") config.events ++ path_text (codes "\nmetrics ") config.metrics

-- the mode of a socket, if it is given: a 0, and an octal digit each of its owner, of its group and of others
abbrev pub digits_text : List ℕ → ℕ → ℕ → ℕ → List ℕ
digits_text words owner group others = words ++ (decimal owner ++ (decimal group ++ decimal others))

abbrev pub mode_text : List ℕ → Option ℕ → List ℕ
mode_text words None = []
mode_text words (Some mode) = digits_text words (mode / 64) (mode / 8 % 8) (mode % 8)

-- who may use the sockets
abbrev pub modes_text : Config → List ℕ
modes_text config =
    mode_text (codes "\ncontrol_mode 0") config.modes.control ++ mode_text (codes "\nevents_mode 0") config.modes.events

-- and where the journal files are made
abbrev pub modes_and_dir_text : Config → List ℕ
modes_and_dir_text config = modes_text config ++ path_text (codes "\njournal_dir ") config.files.dir

abbrev pub paths_text : Config → List ℕ
paths_text config = telling_text config ++ modes_and_dir_text config

-- all of that
abbrev pub place_text : Config → List ℕ
place_text config = own_text config ++ paths_text config

-- the keys of the group, and what follows
abbrev pub keys_and_members_text : Config → List ℕ
keys_and_members_text config = keys_text config.keys.items ++ all_members_text config.opening.rows

-- the numbers, and what follows
abbrev pub numbers_and_members_text : Config → List ℕ
numbers_and_members_text config = numbers_text config number_keys ++ keys_and_members_text config

abbrev pub summary_text : Config → List ℕ
summary_text config = place_text config ++ numbers_and_members_text config
