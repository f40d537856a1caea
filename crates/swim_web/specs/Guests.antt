-- When a guest is late.
use Rattle.std.specs.Prelude.{◌-◌, Bool, false, not, nat_le, Option, Some, None}
use Rattle.std.specs.Duration.{as_nanos}
use Rattle.std.specs.declared.time.Duration.{Duration}
use Rattle.std.specs.Time.{instant_nanos}
use Rattle.std.specs.declared.time.Instant.{Instant}

-- more than this has passed since its time began; a time that hasn't begun isn't over
abbrev pub is_late : Option Instant → Instant → Duration → Bool
is_late None now most = false
is_late (Some since) now most = not (nat_le (instant_nanos now - instant_nanos since) (as_nanos most))
