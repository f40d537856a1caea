-- The pings that came to a member from those that began the probes, and how its clock went on between them. It rests on
-- ticks alone: comments of files, which tell times, decide nothing.
use Rattle.std.specs.Prelude.{◌≡◌, ℕ, ◌+◌, ◌-◌, ◌^◌, ◌==◌, ◌&&◌, max, min, Bool, List, [], ◌∷◌, ◌++◌, Option, Some}
use Rattle.std.specs.Prelude.{None, filter, length, nat_eq, nat_le, nat_lt, if◌then◌else◌}
use Rattle.std.specs.HashMap.{get}
use Rattle.std.specs.Option.{option_map, option_to_list, unwrap_or}
use Rattle.swim_wire.specs.Messages.{Message}
use Rattle.swim_wire.specs.declared.messages.Kind.TheVariants.{Ping}
use Rattle.swim_history.specs.declared.calls.Call.{Call}
use Rattle.swim_history.specs.declared.calls.Call.TheVariants.{Hear}
use Rattle.swim_history.specs.declared.replies.Reply.{Reply}
use Rattle.swim_history.specs.declared.entries.Entry.{Entry}
use Rattle.swim_history.specs.Events.{is_ticking}
use Rattle.swim_history.specs.Clock.{ticks}
use Rattle.swim_trace.specs.declared.beats.Beat.{Beat}
use Rattle.swim_trace.specs.declared.beats.Reach.{Reach}
use Rattle.swim_trace.specs.declared.beats.Rhythm.{Rhythm}
use Rattle.swim_trace.specs.Fates.{same_kind}

-- a ping of this member that its initiator sent
abbrev pub is_own_ping : ℕ → Message → Bool
is_own_ping me m = same_kind m.kind Ping && m.target == me && m.sender == m.initiator

abbrev pub beat_in : ℕ → ℕ → ℕ → Call → Option Beat
beat_in me place ticks (Hear source m) =
    if is_own_ping me m
    then Some (record { initiator = m.initiator; number = m.number; place = place; ticks = ticks })
    else None
beat_in me place ticks call = None

-- the pings that came to that member, oldest first, each with how many ticks stand before it
abbrev pub beats : ℕ → List Entry → List Beat
beats me [] = []
beats me (e ∷ before) = beats me before ++ option_to_list (beat_in me (length before) (ticks before) e.call)

-- how many ticks there are with one entry more; there are less than 2^64
abbrev pub ticks_with : ℕ → Call → Reply → ℕ
ticks_with count call reply = if is_ticking call reply then min (count + 1) (2 ^ 64 - 1) else count

-- the pings of that initiator among these
abbrev pub from_member : ℕ → List Beat → List Beat
from_member m beats = filter (λ b. b.initiator == m) beats

-- a ping, with the greatest number of it and of those before it, which is `most` of these
abbrev pub reach : ℕ → Beat → Reach
reach most b = record { beat = b; greatest = max most b.number }

abbrev pub reaches : ℕ → List Beat → List Reach
reaches most [] = []
reaches most (b ∷ more) = reach most b ∷ reaches (max most b.number) more

-- the greatest number of pings that are kept, or `most` where there are none
abbrev pub greatest_of : ℕ → List Reach → ℕ
greatest_of most [] = most
greatest_of most (r ∷ more) = greatest_of r.greatest more

-- what is kept of an initiator, with a ping more, where it is that one's
abbrev pub with_beat : ℕ → Option Beat → List Reach → List Reach
with_beat m None kept = kept
with_beat m (Some b) kept = if b.initiator == m then kept ++ reach (greatest_of 0 kept) b ∷ [] else kept

abbrev pub kept_of : ℕ → Rhythm → List Reach
kept_of m r = unwrap_or (option_map (λ kept. kept.items) (get nat_eq r.beats m)) []

-- what is known of the entries that were gone through: of each initiator its pings, with the greatest numbers so far
pub record Follows (me : ℕ) (h : List Entry) (r : Rhythm) : Type 0 where
  pub beats : (m : ℕ) → kept_of m r ≡ reaches 0 (from_member m (beats me h))
  pub ticks : r.ticks ≡ ticks h

-- the ping is of that initiator, in one of its periods behind the number last, up to latest
abbrev pub is_from : ℕ → ℕ → ℕ → Beat → Bool
is_from initiator last latest b = b.initiator == initiator && nat_lt last b.number && nat_le b.number latest

-- it is in one of these periods
abbrev pub is_within : ℕ → ℕ → Reach → Bool
is_within last latest r = nat_lt last r.beat.number && nat_le r.beat.number latest
