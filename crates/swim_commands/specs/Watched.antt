-- What watching a daemon does.
use Rattle.std.specs.Prelude.{◌≡◌, ◌⊎◌, ℕ, Bool, List, Option, None}
use Rattle.swim_config.specs.declared.config_fault.ConfigFault.TheVariants.{NoMemory}
use Rattle.swim_watch.specs.Watching.{Watched, Watches}
use Rattle.swim_watch.specs.declared.watching.WatchEnd.{WatchEnd}
use Rattle.swim_watch.specs.declared.watching.WatchEnd.TheVariants as ends
use Rattle.swim_outcomes.specs.declared.outcomes.Outcome.{Outcome}
use Rattle.swim_outcomes.specs.declared.outcomes.Outcome.TheVariants.{Refused, NoTeller, WatchUnwritten}

-- how watching ends whose lines ended so
abbrev pub watched_so : WatchEnd → Outcome
watched_so ends.Over = NoTeller
watched_so ends.Unwritten = WatchUnwritten
watched_so ends.NoMemory = Refused NoMemory

-- so much was written of lines of which nobody knows what they are, and that many bytes of it aren't handed on
abbrev pub unheard : Option (List ℕ) → ℕ → Watched
unheard written held = record { heard = None; written = written; held = held }

-- lines were written as they were heard, or as JSON; where nobody tells any, nothing was
abbrev pub WatchesDaemon : Bool → Option (List ℕ) → Option (List ℕ) → Outcome → Type 0
WatchesDaemon is_json old new outcome =
    ((outcome ≡ NoTeller) × (new ≡ old))
    ⊎ ((ended : WatchEnd) × (held : ℕ) × (left : ℕ) × Watches is_json (unheard old held) (unheard new left) ended
    × (outcome ≡ watched_so ended))
