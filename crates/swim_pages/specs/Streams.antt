-- When a stream is lost, and when another is opened.
use Rattle.std.specs.Prelude.{◌-◌, Bool, true, false, nat_le, Option, Some, None}
use Rattle.std.specs.Time.{instant_nanos}
use Rattle.std.specs.declared.time.Instant.{Instant}
use Rattle.std.specs.declared.io.ErrorKind.{ErrorKind}
use Rattle.std.specs.declared.io.ErrorKind.TheVariants.{Interrupted, WouldBlock}

-- a stream is lost by a fault of that kind, unless nothing lies there yet, or a signal came
abbrev pub is_lasting : ErrorKind → Bool
is_lasting WouldBlock = false
is_lasting Interrupted = false
is_lasting _ = true

-- nobody has tried to connect yet, or half a second ago or before
abbrev pub is_due : Option Instant → Instant → Bool
is_due None now = true
is_due (Some tried) now = nat_le 500000000 (instant_nanos now - instant_nanos tried)
