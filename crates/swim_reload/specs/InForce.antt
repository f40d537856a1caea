-- Which values of a configuration that is read again are in force in a daemon that runs.
use Rattle.std.specs.Prelude.{◌≡◌, Bool, true, ◌==◌, List, [], ◌∷◌, bytes_eq}
use Rattle.swim_config.specs.declared.config.Config.{Config}
use Rattle.swim_config.specs.declared.keys.ConfigKey.{ConfigKey}
use Rattle.swim_config.specs.declared.keys.ConfigKey.TheVariants as keys
use Rattle.swim_config.specs.Configuration.{told_last}
use Rattle.swim_reload.specs.Comparing.{are_same_rows, is_same_number, is_same_path, is_same_peer, is_same_unit}
use Rattle.swim_reload.specs.Comparing.{is_same_version}

-- the keys whose values need a start, in the order in which they are told
abbrev pub start_keys : List ConfigKey
start_keys =
    keys.Id ∷ keys.Listen ∷ keys.Control ∷ keys.Events ∷ keys.Metrics ∷ keys.ControlMode ∷ keys.EventsMode ∷ keys.K ∷
    keys.Rtt ∷ keys.Period ∷ keys.TickMs ∷ keys.Seed ∷ keys.Journal ∷ keys.Last ∷ keys.Wire ∷ keys.JournalDir ∷
    keys.JournalKeep ∷ keys.JournalMs ∷ keys.Member ∷ []

-- the value that a key has in what is read is in force without a start: the daemon was started with the same, or takes
-- it over at once. A last number that the clock tells is another than any that is written. The keys of a member are
-- those of `member`
abbrev pub IsInForce : ConfigKey → Config → Config → Type 0
IsInForce keys.Id started read = started.opening.me ≡ read.opening.me
IsInForce keys.Listen started read = started.listen ≡ read.listen
IsInForce keys.Control started read = started.control ≡ read.control
IsInForce keys.Events started read = started.events ≡ read.events
IsInForce keys.Metrics started read = started.metrics ≡ read.metrics
IsInForce keys.ControlMode started read = started.modes.control ≡ read.modes.control
IsInForce keys.EventsMode started read = started.modes.events ≡ read.modes.events
IsInForce keys.K started read = started.opening.k ≡ read.opening.k
IsInForce keys.Rtt started read = started.opening.rtt ≡ read.opening.rtt
IsInForce keys.Period started read = started.opening.period ≡ read.opening.period
IsInForce keys.TickMs started read = started.tick_ms ≡ read.tick_ms
IsInForce keys.Seed started read = started.seed ≡ read.seed
IsInForce keys.Journal started read = started.journal ≡ read.journal
IsInForce keys.Last started read = told_last started ≡ told_last read
IsInForce keys.Wire started read = started.opening.version ≡ read.opening.version
IsInForce keys.JournalDir started read = started.files.dir ≡ read.files.dir
IsInForce keys.JournalKeep started read = started.files.keep ≡ read.files.keep
IsInForce keys.JournalMs started read = started.files.unit ≡ read.files.unit
IsInForce keys.Member started read = started.opening.rows ≡ read.opening.rows
IsInForce keys.Keys started read = Unit {0}
IsInForce keys.Fence started read = Unit {0}
IsInForce keys.Rejoin started read = Unit {0}
IsInForce keys.MemberId started read = Unit {0}
IsInForce keys.MemberAt started read = Unit {0}

-- the same as a test, by which texts are made. The function of its name tells that they agree
abbrev pub is_in_force : ConfigKey → Config → Config → Bool
is_in_force keys.Id started read = started.opening.me == read.opening.me
is_in_force keys.Listen started read = is_same_peer started.listen read.listen
is_in_force keys.Control started read = bytes_eq started.control read.control
is_in_force keys.Events started read = is_same_path started.events read.events
is_in_force keys.Metrics started read = is_same_path started.metrics read.metrics
is_in_force keys.ControlMode started read = is_same_number started.modes.control read.modes.control
is_in_force keys.EventsMode started read = is_same_number started.modes.events read.modes.events
is_in_force keys.K started read = started.opening.k == read.opening.k
is_in_force keys.Rtt started read = started.opening.rtt == read.opening.rtt
is_in_force keys.Period started read = started.opening.period == read.opening.period
is_in_force keys.TickMs started read = started.tick_ms == read.tick_ms
is_in_force keys.Seed started read = bytes_eq started.seed read.seed
is_in_force keys.Journal started read = started.journal == read.journal
is_in_force keys.Last started read = is_same_number (told_last started) (told_last read)
is_in_force keys.Wire started read = is_same_version started.opening.version read.opening.version
is_in_force keys.JournalDir started read = is_same_path started.files.dir read.files.dir
is_in_force keys.JournalKeep started read = started.files.keep == read.files.keep
is_in_force keys.JournalMs started read = is_same_unit started.files.unit read.files.unit
is_in_force keys.Member started read = are_same_rows started.opening.rows read.opening.rows
is_in_force keys.Keys started read = true
is_in_force keys.Fence started read = true
is_in_force keys.Rejoin started read = true
is_in_force keys.MemberId started read = true
is_in_force keys.MemberAt started read = true
