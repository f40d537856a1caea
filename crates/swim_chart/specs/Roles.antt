-- What the datagrams of a probe are there for, in the order in which they are listed: the ping, the ack, and of each
-- relay the request, its ping, the ack to it and the ack that it forwards.
use Rattle.std.specs.Prelude.{ℕ, ◌-◌, ◌/◌, ◌%◌, ◌==◌, if◌then◌else◌}
use Rattle.swim_chart.specs.declared.roles.Role.{Role}
use Rattle.swim_chart.specs.declared.roles.Role.TheVariants.{Ping, Ack, Request, RelayPing, RelayAck, Forward}

abbrev pub relayed : ℕ → ℕ → Role
relayed relay part =
    if part == 0 then Request relay
    else (if part == 1 then RelayPing relay else (if part == 2 then RelayAck relay else Forward relay))

abbrev pub role_at : ℕ → Role
role_at place =
    if place == 0 then Ping else (if place == 1 then Ack else relayed ((place - 2) / 4) ((place - 2) % 4))
