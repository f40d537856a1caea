-- Where the steps of a probe are in its picture, in pixels. From left to right they are in the order in which one
-- follows from the other, which is no time: members have no common clock.
use Rattle.std.specs.Prelude.{ℕ, ◌+◌, ◌*◌, ◌/◌, if◌then◌else◌}
use Rattle.swim_chart.specs.declared.charts.Arrow.{Arrow}
use Rattle.swim_chart.specs.declared.roles.Role.{Role}
use Rattle.swim_chart.specs.declared.roles.Role.TheVariants.{Ping, Ack, Request, RelayPing, RelayAck, Forward}
use Rattle.swim_chart.specs.declared.spots.Line.{Line}
use Rattle.swim_chart.specs.declared.spots.Point.{Point}

-- a step in a lane: lane 0 is the initiator's, lane 1 the target's, and the relays' follow
abbrev pub spot : ℕ → ℕ → Point
spot step lane = record { x = 120 + 40 * step; y = 190 + 64 * lane }

-- where a datagram is sent, with so many relays. They are asked at once; what the target and the initiator hear of one
-- is a step behind the same of the one that was asked before it
abbrev pub start_of : ℕ → Role → Point
start_of all Ping = spot 0 0
start_of all Ack = spot 2 1
start_of all (Request relay) = spot 6 0
start_of all (RelayPing relay) = spot 8 (2 + relay)
start_of all (RelayAck relay) = spot (10 + relay) 1
start_of all (Forward relay) = spot (11 + all) (2 + relay)

-- where it is heard, within the period
abbrev pub in_time : ℕ → Role → Point
in_time all Ping = spot 2 1
in_time all Ack = spot 4 0
in_time all (Request relay) = spot 8 (2 + relay)
in_time all (RelayPing relay) = spot (10 + relay) 1
in_time all (RelayAck relay) = spot (11 + all) (2 + relay)
in_time all (Forward relay) = spot (13 + all + relay) 0

-- where the period ends
abbrev pub period_end : ℕ → ℕ
period_end all = (spot (14 + 2 * all) 0).x

-- where it is heard after the end of the period: only the initiator knows of that
abbrev pub too_late : ℕ → Role → Point
too_late all Ping = in_time all Ping
too_late all Ack = spot (16 + 2 * all) 0
too_late all (Request relay) = in_time all (Request relay)
too_late all (RelayPing relay) = in_time all (RelayPing relay)
too_late all (RelayAck relay) = in_time all (RelayAck relay)
too_late all (Forward relay) = spot (17 + 2 * all + relay) 0

abbrev pub end_of : ℕ → Arrow → Point
end_of all a = if a.is_late then too_late all a.role else in_time all a.role

abbrev pub line_of : ℕ → Arrow → Line
line_of all a = record { from = start_of all a.role; to = end_of all a }

abbrev pub middle : Line → Point
middle l = record { x = l.from.x / 2 + l.to.x / 2; y = l.from.y / 2 + l.to.y / 2 }

-- where the lanes end, and how far down the line of the period's end goes
abbrev pub right : ℕ → ℕ
right all = (spot (18 + 3 * all) 0).x

abbrev pub bottom : ℕ → ℕ
bottom all = (spot 0 (1 + all)).y + 28

-- the size of the picture
abbrev pub width : ℕ → ℕ
width all = right all + 24

abbrev pub height : ℕ → ℕ
height all = bottom all + 16
