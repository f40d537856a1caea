-- What is kept of a member that was probed, so that nobody has to walk through its history.
use Rattle.std.specs.Prelude.{◌≡◌, ℕ, ◌+◌, ◌-◌, ◌≤◌, List, Option, Some, None, IfSome, is_some, option_and_then}
use Rattle.std.specs.Prelude.{if◌then◌else◌}
use Rattle.std.specs.List.{list_any}
use Rattle.std.specs.Option.{option_map}
use Rattle.swim_history.specs.declared.calls.Call.{Call}
use Rattle.swim_history.specs.declared.replies.Reply.{Reply}
use Rattle.swim_history.specs.declared.entries.Entry.{Entry}
use Rattle.swim_history.specs.declared.gaps.Gap.{Gap}
use Rattle.swim_history.specs.declared.gaps.LastProbe.{LastProbe}
use Rattle.swim_history.specs.declared.gaps.ProbeStart.{ProbeStart}
use Rattle.swim_history.specs.declared.gaps.MemberGaps.{MemberGaps}
use Rattle.swim_history.specs.Setting.{Setting}
use Rattle.swim_history.specs.Gap.{probes_member, is_unlisting}
use Rattle.swim_history.specs.LastProbe.{probed_at, gap_since, wider, last_probe, widest_gap}

-- a probe, seen after so many joins
abbrev pub last_at : ℕ → Option ProbeStart → Option LastProbe
last_at joins start =
    option_map (λ start. record { number = start.number; n = start.listed + (joins - start.joins) }) start

-- the last probe of a member that is listed since, and its widest gap
abbrev pub last_in : Option MemberGaps → Option ProbeStart
last_in kept = option_and_then (λ kept. kept.last) kept

abbrev pub widest_in : Option MemberGaps → Option Gap
widest_in kept = option_and_then (λ kept. kept.widest) kept

-- what is kept of a member in a history with so many joins; nothing of one that was never probed
pub record IsKept (o : Setting) (h : List Entry) (joins m : ℕ) (kept : Option MemberGaps) : Type 0 where
  pub probed : is_some kept ≡ list_any (probes_member m) h
  pub past : IfSome (last_in kept) (λ start. start.joins ≤ joins)
  pub last : last_at joins (last_in kept) ≡ last_probe o m h
  pub widest : widest_in kept ≡ widest_gap o m h

-- ---- what is kept after an entry

-- of a member that is no longer listed
abbrev pub unlisted : MemberGaps → MemberGaps
unlisted kept = record { last = None; widest = kept.widest }

-- of a member that is probed
abbrev pub probed_again : ProbeStart → Option MemberGaps → MemberGaps
probed_again start kept =
    record {
      last = Some start;
      widest =
          wider (widest_in kept) (gap_since (last_at start.joins (last_in kept)) start.number);
    }

abbrev pub probed_then : Option ℕ → ℕ → ℕ → Option MemberGaps → Option MemberGaps
probed_then None up joins kept = kept
probed_then (Some number) up joins kept =
    Some (probed_again (record { number = number; joins = joins; listed = up }) kept)

-- of any member: up is how many are listed after the entry, and joins is how many joins were accepted before it
abbrev pub gaps_then : ℕ → Call → Reply → ℕ → ℕ → Option MemberGaps → Option MemberGaps
gaps_then m call reply up joins kept =
    if is_unlisting m call reply then option_map unlisted (probed_then (probed_at m reply) up joins kept)
    else probed_then (probed_at m reply) up joins kept

-- a probe with this number, after so many joins, comes after what is kept
pub record IsOpenTo (joins number : ℕ) (kept : Option MemberGaps) : Type 0 where
  pub last : IfSome (last_in kept) (λ start. (start.joins ≤ joins) × (start.number ≤ number))
  pub widest : IfSome (widest_in kept) (λ g. g.a ≤ g.b)
