-- When a detector begins whose last number the clock tells.
use Rattle.std.specs.Prelude.{ℕ, ◌-◌, ◌^◌, false, List, map, min, if◌then◌else◌}
use Rattle.swim_wire.specs.Address.{Address}
use Rattle.swim_history.specs.Check.{setting_of}
use Rattle.swim_history.specs.Setting.{Setting}
use Rattle.swim_history.specs.declared.rows.Row.{Row}
use Rattle.swim_config.specs.declared.config.Config.{Config}

-- the largest number that `last` may be
abbrev pub largest_last : ℕ
largest_last = 2 ^ 63 - 1

-- the members of rows, and their addresses
abbrev pub members_of : List Row → List (ℕ × Address)
members_of rows = map (λ row. (row.id, row.peer)) rows

-- the same setting behind that number. Its members are up, as those of a configuration are
abbrev pub setting_from : ℕ → Setting → Setting
setting_from last o = setting_of o.me o.k o.rtt o.period (members_of o.rows) last o.version

-- the configuration of a daemon that starts at that time, in milliseconds since 1970
abbrev pub begun_at : ℕ → Config → Config
begun_at milliseconds config =
    if config.begins_by_clock
    then record config {
      opening = setting_from (min milliseconds largest_last) config.opening;
      begins_by_clock = false;
    }
    else config
