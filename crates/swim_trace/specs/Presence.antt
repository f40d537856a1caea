-- Whether a member's clock went on while it was probed, by the pings of the initiator that came to it and by ticks.
use Rattle.std.specs.Prelude.{ℕ, zero, suc, ◌+◌, ◌-◌, ◌*◌, ◌^◌, ◌==◌, List, [], ◌∷◌, Option, Some, None, min, nat_le}
use Rattle.std.specs.Prelude.{if◌then◌else◌, slice_get}
use Rattle.std.specs.Option.{option_map}
use Rattle.swim_trace.specs.declared.acts.ProbeName.{ProbeName}
use Rattle.swim_trace.specs.declared.beats.Beat.{Beat}
use Rattle.swim_trace.specs.declared.beats.Reach.{Reach}
use Rattle.swim_trace.specs.declared.presences.Bracket.{Bracket}
use Rattle.swim_trace.specs.declared.presences.Pace.{Pace}
use Rattle.swim_trace.specs.declared.presences.Presence.{Presence}
use Rattle.swim_trace.specs.declared.presences.Presence.TheVariants.{Unknown, Ran, StoodStill, Ended}

abbrev pub bracketed : Option Beat → Option Beat → Bracket
bracketed before after = record { before = before; after = after }

-- of pings that came, the initiator's last one of an earlier period, and its first one behind it that isn't of an
-- earlier period
abbrev pub bracket : ProbeName → Option Beat → List Beat → Bracket
bracket p before [] = bracketed before None
bracket p before (b ∷ more) =
    if b.initiator == p.initiator
    then if nat_le p.number b.number then bracketed before (Some b) else bracket p (Some b) more
    else bracket p before more

-- of pings that are kept, the one at a place, and the one before it, which is `before` at the first place
abbrev pub beat_at : List Reach → ℕ → Option Beat
beat_at kept place = option_map (λ r. r.beat) (slice_get kept place)

abbrev pub beat_before : Option Beat → List Reach → ℕ → Option Beat
beat_before before kept zero = before
beat_before before kept (suc place) = beat_at kept place

abbrev pub pace_of : Beat → ℕ → ℕ → Pace
pace_of before had due = record { before = before; had = had; due = due }

-- no count goes on behind the greatest
abbrev pub capped : ℕ → ℕ
capped count = min count (2 ^ 64 - 1)

-- how many ticks the initiator had from the start that sent a ping to that of the period of this number
abbrev pub due_from : ℕ → Beat → ℕ → ℕ
due_from period before number = capped ((number - before.number) * period)

-- it went on where it had no fewer ticks, but for as many as a timeout has
abbrev pub ran_or : ℕ → Pace → Presence → Presence
ran_or timeout pace other = if nat_le pace.due (capped (pace.had + timeout)) then Ran pace else other

-- from one ping to the next
abbrev pub paced : ℕ → Pace → Presence
paced timeout pace = ran_or timeout pace (StoodStill pace)

abbrev pub until_ping : ℕ → ℕ → Beat → Beat → Presence
until_ping period timeout before after =
    paced timeout (pace_of before (after.ticks - before.ticks) (due_from period before after.number))

-- from a ping to the end of entries with so many ticks: they end before the period began, or within it
abbrev pub ended : ℕ → Pace → Presence
ended timeout pace = if nat_le pace.due (capped (pace.had + timeout)) then Unknown else Ended pace

abbrev pub until_end : ℕ → ℕ → Beat → ℕ → ℕ → Presence
until_end period timeout before number ticks =
    ran_or timeout (pace_of before (ticks - before.ticks) (capped (due_from period before number + period)))
    (ended timeout (pace_of before (ticks - before.ticks) (due_from period before number)))

abbrev pub presence_in : ℕ → ℕ → ProbeName → Option Beat → Option Beat → ℕ → Presence
presence_in period timeout p None after ticks = Unknown
presence_in period timeout p (Some before) None ticks = until_end period timeout before p.number ticks
presence_in period timeout p (Some before) (Some after) ticks = until_ping period timeout before after

abbrev pub presence_by : ℕ → ℕ → ProbeName → Bracket → ℕ → Presence
presence_by period timeout p b ticks = presence_in period timeout p b.before b.after ticks

-- of a target, by the pings that came to it and how many ticks it had, with periods and timeouts of so many
abbrev pub presence : ℕ → ℕ → ProbeName → List Beat → ℕ → Presence
presence period timeout p beats ticks = presence_by period timeout p (bracket p None beats) ticks
