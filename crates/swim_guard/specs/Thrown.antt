-- What a line throws away.
use Rattle.std.specs.Prelude.{Option, Some, None}
use Rattle.swim_wire.specs.Address.{Address}
use Rattle.swim_text.specs.Streams.{one_more}
use Rattle.swim_guard.specs.declared.thrown.Thrown.{Thrown}

-- a datagram from there more was thrown away, or none was; the count stops at 2^64-1
abbrev pub one_thrown : Option Address → Thrown → Thrown
one_thrown None t = t
one_thrown (Some source) t = record { count = one_more t.count; newest = Some source }
