-- The last probe of a member since which it is listed, and its widest gap.
use Rattle.std.specs.Prelude.{ℕ, ◌+◌, ◌-◌, ◌==◌, nat_lt, Bool, List, [], ◌∷◌, length, Option, Some, None}
use Rattle.std.specs.Prelude.{option_and_then, if◌then◌else◌}
use Rattle.std.specs.Option.{option_map}
use Rattle.swim_history.specs.declared.calls.Call.{Call}
use Rattle.swim_history.specs.declared.replies.Reply.{Reply}
use Rattle.swim_history.specs.declared.entries.Entry.{Entry}
use Rattle.swim_history.specs.declared.gaps.Gap.{Gap}
use Rattle.swim_history.specs.declared.gaps.LastProbe.{LastProbe}
use Rattle.swim_history.specs.Setting.{Setting}
use Rattle.swim_history.specs.Events.{probe_in, is_joining}
use Rattle.swim_history.specs.Round.{listed}
use Rattle.swim_history.specs.Gap.{is_unlisting}

-- the number of the period that begins with a probe of the member
abbrev pub probed_at : ℕ → Reply → Option ℕ
probed_at m reply = option_and_then (λ probe. if probe.target == m then Some probe.number else None) (probe_in reply)

-- one member more, where one joins
abbrev pub with_joiner : Bool → LastProbe → LastProbe
with_joiner joined last = if joined then record { number = last.number; n = last.n + 1 } else last

-- what is kept after an entry that doesn't probe the member
abbrev pub kept : ℕ → Call → Reply → Option LastProbe → Option LastProbe
kept m call reply last =
    if is_unlisting m call reply then None else option_map (with_joiner (is_joining call reply)) last

-- what is kept after an entry: up is how many are listed then
abbrev pub last_of : Option ℕ → ℕ → Option LastProbe → Option LastProbe
last_of None up last = last
last_of (Some number) up last = Some (record { number = number; n = up })

abbrev pub last_then : ℕ → Call → Reply → ℕ → Option LastProbe → Option LastProbe
last_then m call reply up last = last_of (probed_at m reply) up (kept m call reply last)

-- the gap that a probe ends
abbrev pub gap_since : Option LastProbe → ℕ → Option Gap
gap_since last number = option_map (λ last. record { a = last.number; b = number; n = last.n }) last

abbrev pub gap_then : ℕ → Reply → Option LastProbe → Option Gap
gap_then m reply last = option_and_then (gap_since last) (probed_at m reply)

-- the wider of two gaps, the first where they are equally wide
abbrev pub wider : Option Gap → Option Gap → Option Gap
wider None new = new
wider (Some old) None = Some old
wider (Some old) (Some new) = if nat_lt (old.b - old.a) (new.b - new.a) then Some new else Some old

-- the last probe of a member since which it is listed, in a history
abbrev pub last_probe : Setting → ℕ → List Entry → Option LastProbe
last_probe o m [] = None
last_probe o m (e ∷ before) = last_then m e.call e.reply (length (listed o (e ∷ before))) (last_probe o m before)

-- the widest gap of a member, the earliest of equals
abbrev pub widest_gap : Setting → ℕ → List Entry → Option Gap
widest_gap o m [] = None
widest_gap o m (e ∷ before) = wider (widest_gap o m before) (gap_then m e.reply (last_probe o m before))
